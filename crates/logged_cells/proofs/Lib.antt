pub mod WritingLemmas
pub mod CellLemmas
