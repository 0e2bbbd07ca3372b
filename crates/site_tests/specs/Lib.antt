pub mod Tallies
pub mod Sights
