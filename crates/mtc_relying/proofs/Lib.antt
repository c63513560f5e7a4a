pub mod Audited
pub mod Compared
pub mod After
pub mod Quarrels
pub mod Trusted
pub mod PartPeaks
pub mod Closing
pub mod Listed
