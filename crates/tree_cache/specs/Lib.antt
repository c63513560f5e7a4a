pub mod Rows
pub mod Cached
pub mod Tiled
