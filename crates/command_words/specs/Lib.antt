pub mod Answering
pub mod Commands
pub mod Grammar
pub mod Names
pub mod Program
pub mod Settings
pub mod Words
