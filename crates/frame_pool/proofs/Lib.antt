pub mod Orders
pub mod Sounds
