pub mod Reading
pub mod Encoding
pub mod Arcs
pub mod Anchors
pub mod Decimal
pub mod Lines
pub mod Reasons
