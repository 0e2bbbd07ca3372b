pub mod TallyLemmas
pub mod PassLemmas
pub mod SightLemmas
pub mod StoreLemmas
