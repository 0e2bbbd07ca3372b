pub mod Reading
pub mod Agreement
