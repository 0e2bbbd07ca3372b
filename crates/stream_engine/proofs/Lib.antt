pub mod Inputs
pub mod Openings
pub mod Feeding
pub mod Searches
pub mod SendLemmas
