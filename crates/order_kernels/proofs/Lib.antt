pub mod MergeLemmas
pub mod SlotLemmas
pub mod TopLemmas
