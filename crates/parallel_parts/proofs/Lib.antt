pub mod WorkLemmas
pub mod SendLemmas
