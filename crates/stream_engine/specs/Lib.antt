pub mod Flows
pub mod Kernels
pub mod Views
pub mod Falls
pub mod Fed
