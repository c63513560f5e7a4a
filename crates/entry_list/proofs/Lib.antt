pub mod Kept
pub mod Loops
pub mod Written
pub mod OwnKeys
