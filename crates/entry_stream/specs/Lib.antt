pub mod Folds
pub mod Parts
pub mod Streams
