pub mod DiskLemmas
pub mod CallsLemmas
pub mod MemoryLemmas
pub mod PlacesLemmas
pub mod StopsLemmas
