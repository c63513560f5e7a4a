pub mod Heights
pub mod Trees
pub mod Held
pub mod Refusals
pub mod Reasons
