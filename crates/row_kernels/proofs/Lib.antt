pub mod ChoosingLemmas
pub mod JoinLemmas
pub mod SelectLemmas
