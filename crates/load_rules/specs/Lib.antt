pub mod Documents
pub mod Topic
pub mod Summary
pub mod Walks
pub mod Loaded
pub mod Worked
pub mod Finished
