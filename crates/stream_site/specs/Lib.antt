pub mod Shares
pub mod Logs
pub mod Topics
pub mod Spots
pub mod Rooms
pub mod Refusals
pub mod Lone
