pub mod Progresses
pub mod Steps
pub mod Topics
pub mod Runs
pub mod Takes
pub mod Given
pub mod Sends
pub mod Promises
