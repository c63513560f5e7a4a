pub mod Walks
pub mod Decided
pub mod Plain
pub mod Premises
