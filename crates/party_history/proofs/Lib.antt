pub mod Agreement
pub mod Chains
pub mod Cosigners
pub mod Entries
pub mod Items
pub mod Keys
pub mod Mirrors
mod Replays
pub mod Sound
pub mod Steps
pub mod Switches
pub mod Taking
