pub mod Types
pub mod Offsets
pub mod Readings
pub mod Lists
pub mod Left
pub mod Forms
pub mod Numbers
pub mod Refusals
