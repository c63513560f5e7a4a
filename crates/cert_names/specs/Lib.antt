pub mod Names
pub mod LogNames
pub mod Hosts
