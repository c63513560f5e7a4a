mod Steps
mod Reading
mod Opening
pub mod Coming
pub mod Facts
pub mod Forms
pub mod Devices
pub mod Read
pub mod Stops
pub mod Opened
