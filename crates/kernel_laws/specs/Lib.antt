pub mod Asks
pub mod OneInput
pub mod Rests
