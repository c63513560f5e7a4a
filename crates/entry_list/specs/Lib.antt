pub mod Items
pub mod Offsets
pub mod Reading
pub mod Reasons
