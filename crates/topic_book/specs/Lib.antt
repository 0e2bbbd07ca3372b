pub mod Alike
pub mod Books
pub mod Cells
pub mod Fitness
pub mod Kept
pub mod Raises
pub mod States
pub mod Topics
