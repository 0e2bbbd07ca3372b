pub mod BytesLemmas
pub mod DocumentLemmas
pub mod FieldLemmas
pub mod KeyLemmas
pub mod MapLemmas
pub mod OrderLemmas
pub mod SizeLemmas
mod ComparisonLemmas
mod SearchLemmas
mod ShapeLemmas
mod WholeLemmas
