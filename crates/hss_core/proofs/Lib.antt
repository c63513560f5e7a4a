pub mod Parts
pub mod Verifies
pub mod SignedKeys
