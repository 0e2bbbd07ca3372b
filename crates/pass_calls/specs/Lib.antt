pub mod Serving
pub mod Due
