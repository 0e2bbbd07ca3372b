pub mod Parted
pub mod Splits
pub mod Laws
