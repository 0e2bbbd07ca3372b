mod CallLemmas
mod ClaimLemmas
mod LoopLemmas
mod PlaceLemmas
pub mod RisingLemmas
pub mod TicketLemmas
pub mod SendLemmas
