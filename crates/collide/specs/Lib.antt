pub mod Inputs
pub mod Extraction
pub mod After
pub mod Comparison
pub mod Laws
