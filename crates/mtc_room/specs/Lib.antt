pub mod Memory
pub mod Places
pub mod Room
pub mod MemoryLaws
pub mod Opened
