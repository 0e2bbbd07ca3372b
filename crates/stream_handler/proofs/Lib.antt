pub mod StorableLemmas
pub mod BoardLemmas
pub mod CarriedLemmas
pub mod RespondLemmas
pub mod RootLemmas
pub mod PassLemmas
pub mod WireLemmas
pub mod WaitLemmas
pub mod SoundLemmas
pub mod ChunkLemmas
pub mod CarryLemmas
pub mod ReplyLemmas
pub mod ServeLemmas
pub mod OneLemmas
pub mod ConnectionLemmas
pub mod RecordLemmas
mod ReadLemmas
