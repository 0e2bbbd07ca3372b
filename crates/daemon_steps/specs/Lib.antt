pub use Rattle.root_runs.specs.Stays
pub mod Steps
pub mod Stepped
pub mod Runs
pub mod Laws
