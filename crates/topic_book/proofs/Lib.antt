pub mod BookLemmas
pub mod AlikeLemmas
pub mod RaiseLemmas
pub mod TopicLemmas
pub mod StateLemmas
pub mod KeptLemmas
