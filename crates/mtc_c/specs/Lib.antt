pub mod Sizes
pub mod Codes
pub mod Verdicts
pub mod Names
pub mod Pieces
