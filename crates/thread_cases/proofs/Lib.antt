pub mod PassLemmas
pub mod SendLemmas
pub mod WorkLemmas
