pub mod Auditing
pub mod Beginnings
pub mod Cosigning
pub mod Hosts
pub mod Issuing
pub mod Judging
pub mod Monitoring
pub mod Reasons
