pub mod SameLemmas
pub mod ServedLemmas
