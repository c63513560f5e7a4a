pub mod Facts
pub mod Cited
pub mod Concluded
pub mod Ended
pub mod Run
pub mod Executions
pub mod Stops
