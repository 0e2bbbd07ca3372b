pub mod Stays
pub mod Lists
pub mod Deeds
pub mod Texts
pub mod Dones
pub mod Runs
pub mod Laws
pub mod Rooted
