pub mod Steps
pub mod Holding
pub mod Exported
pub mod OneList
