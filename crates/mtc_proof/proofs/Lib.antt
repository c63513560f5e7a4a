pub mod Forms
pub mod Inputs
pub mod Sequence
mod Listed
