pub mod ExistState
pub mod JoinState
pub mod Keys
pub mod Runs
pub mod Sides
