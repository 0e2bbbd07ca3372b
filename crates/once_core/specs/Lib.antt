pub mod Cells
pub mod Law
pub mod Allowed
pub mod Worlds
pub mod Sights
pub mod Replays
pub mod Delivered
