pub mod NumberLemmas
pub mod RunLemmas
pub mod SpanLemmas
pub mod WorkLemmas
