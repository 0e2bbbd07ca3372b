pub mod Codes
pub mod Documents
pub mod Heads
pub mod Entries
pub mod BookEntries
pub mod Steps
