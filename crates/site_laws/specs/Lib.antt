pub mod SiteCells
pub mod Duties
pub mod Laws
pub mod Sealings
pub mod Looks
