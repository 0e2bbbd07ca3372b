pub mod Lists
pub mod Held
pub mod Chunks
pub mod Scans
