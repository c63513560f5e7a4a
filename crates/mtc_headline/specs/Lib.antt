pub mod Endings
pub mod Joints
pub mod OneText
pub mod AuditRuns
pub mod Headline
pub mod Borne
pub mod Witnesses
