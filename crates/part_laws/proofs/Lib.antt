pub mod TestLemmas
pub mod PairLemmas
pub mod AlikeLemmas
pub mod RowLemmas
pub mod LawLemmas
pub mod MergeLemmas
pub mod KeyedLemmas
pub mod SplitLemmas
