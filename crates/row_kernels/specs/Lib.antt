pub mod Choosing
pub mod HavingState
pub mod Joining
pub mod SelectState
