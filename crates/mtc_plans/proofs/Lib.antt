mod Texts
pub mod Reading
pub mod Auditing
pub mod Watching
mod Working
pub mod Logs
pub mod Cosigners
pub mod Mirrors
pub mod Planned
pub mod Names
pub mod Heard
pub mod HeardOfBoth
pub mod Streams
