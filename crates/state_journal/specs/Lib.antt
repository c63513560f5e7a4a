pub mod Causes
pub mod Durable
pub mod Machines
pub mod Reasons
pub mod Steps
