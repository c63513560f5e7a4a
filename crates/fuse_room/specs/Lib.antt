pub mod Fused
pub mod FusedLaws
