pub mod Pairs
pub mod Pushes
pub mod Grows
pub mod Filled
pub mod Fulls
pub mod Forgets
