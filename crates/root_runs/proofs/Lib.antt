pub mod StaysLemmas
pub mod CarriedLemmas
pub mod RootLemmas
