pub mod Strings
pub mod Parameters
pub mod Ots
