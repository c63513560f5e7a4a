pub mod After
mod Answering
mod Batching
mod Changes
mod Differing
pub mod Encoded
pub mod Keeping
mod Leading
mod Leaving
mod Listed
mod Longest
mod Made
mod Opening
mod Placed
mod Pushing
mod ReadBodies
mod Rereading
mod Resting
mod Rules
mod Sound
mod Taking
mod Telling
mod Tiling
mod Unrefused
mod Views
mod Writing
