pub mod Passes
pub mod Visits
pub mod Seals
pub mod Sites
pub mod Records
pub mod Ends
pub mod Alone
pub mod Plain
