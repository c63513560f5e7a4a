pub mod Commands
pub mod Names
pub mod Reasons
pub mod Words
