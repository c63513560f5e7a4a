pub mod AnchorIds
pub mod CosignerStops
pub mod Exported
mod FailedCalls
mod Going
mod GrownDisks
mod Outputs
mod LeftAfter
pub mod MadeStops
mod Opened
pub mod Pairs
mod ReadCrashStates
pub mod SignIndices
pub mod Signs
mod Turning
