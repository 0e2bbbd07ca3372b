pub mod BatchLemmas
pub mod EarlyLemmas
pub mod FoundLemmas
pub mod KeptLemmas
pub mod PartLemmas
pub mod ScannedLemmas
pub mod SearchLemmas
