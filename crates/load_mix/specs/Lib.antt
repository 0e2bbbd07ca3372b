pub mod Topic
pub mod Sink
pub mod Puts
pub mod Queries
pub mod Workers
