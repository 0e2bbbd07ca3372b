pub mod Buckets
pub mod HashState
pub mod Held
pub mod JoinKeys
