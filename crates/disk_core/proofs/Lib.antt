pub mod Calls
pub mod Times
pub mod Replay
pub mod Torn
pub mod Turns
