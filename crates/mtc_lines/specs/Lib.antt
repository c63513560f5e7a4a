pub mod CheckpointLines
pub mod Outputs
