pub mod Batches
pub mod Cuts
pub mod Founds
pub mod Keeps
pub mod Parts
pub mod Reads
pub mod Wants
