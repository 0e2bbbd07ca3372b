pub mod NameLemmas
pub mod PassLemmas
