pub mod Workers
pub mod Work
