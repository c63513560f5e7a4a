pub mod Inputs
pub mod Proofs
pub mod Reading
pub mod Reasons
pub mod Views
