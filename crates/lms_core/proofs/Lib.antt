pub mod Indices
pub mod Levels
pub mod Parts
pub mod Climbs
pub mod Verifies
