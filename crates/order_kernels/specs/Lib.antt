pub mod MergeState
pub mod Slots
pub mod SortState
pub mod TopState
