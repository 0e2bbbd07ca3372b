pub mod CopyLemmas
pub mod GroupLemmas
pub mod JoinLemmas
pub mod OrderLemmas
pub mod PlannedLemmas
pub mod SendLemmas
pub mod TreeLemmas
