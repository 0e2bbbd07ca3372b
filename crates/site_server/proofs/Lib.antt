pub mod EndLemmas
pub mod ItemLemmas
pub mod ListLemmas
pub mod NumberLemmas
pub mod RowLemmas
pub mod SendLemmas
pub mod StandLemmas
pub mod WorkedLemmas
