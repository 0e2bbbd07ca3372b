pub mod FrameLemmas
pub mod StepLemmas
pub mod FileLemmas
pub mod StopLemmas
pub mod LogLemmas
pub mod SpellingLemmas
