pub mod ExistLemmas
pub mod KeyLemmas
pub mod RunLemmas
