pub mod Tree
pub mod Fields
pub mod Codes
pub mod Reasons
