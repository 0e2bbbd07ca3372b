pub mod GroupState
pub mod Numbers
pub mod ReduceState
pub mod RollupState
pub mod Runs
pub mod UniqueState
pub mod Work
