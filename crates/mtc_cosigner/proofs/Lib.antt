pub mod Keyed
pub mod Opened
pub mod Appended
pub mod Stepped
pub mod Childed
pub mod Asked
pub mod Begun
pub mod Streamed
