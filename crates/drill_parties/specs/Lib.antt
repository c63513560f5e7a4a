pub mod Draws
pub mod Rounds
pub mod Ids
pub mod Disks
pub mod CosignerCalls
pub mod CosignerParties
pub mod CosignerViews
pub mod Cosigners
