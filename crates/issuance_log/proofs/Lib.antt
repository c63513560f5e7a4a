mod Adds
mod Answering
pub mod Asked
pub mod After
mod Changes
pub mod Fitting
mod Growth
mod Prefixes
pub mod Ids
pub mod Keeping
pub mod Leaves
pub mod Leading
mod Leaving
mod Made
mod Opening
mod ReadViews
mod Renewing
mod Resting
mod Pushing
mod Rereading
mod Rules
mod Shown
pub mod Encoded
pub mod Steps
mod Inside
mod Standing
pub mod TakenItems
mod Taking
mod Telling
pub mod Tiling
mod Views
