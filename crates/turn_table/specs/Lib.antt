pub mod Histories
pub mod Knowledge
pub mod Rule
pub mod Steps
pub mod Moments
pub mod Carried
pub mod Calls
