pub mod CourseLemmas
pub mod LookLemmas
pub mod TurnLemmas
pub mod StepLemmas
