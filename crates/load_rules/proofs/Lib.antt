pub mod DocumentsLemmas
pub mod TallyLemmas
pub mod WalkLemmas
pub mod SummaryLemmas
pub mod Rows
pub mod CellLemmas
