pub mod Doors
pub mod Items
pub mod Rows
pub mod Ended
pub mod Standing
