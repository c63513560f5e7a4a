pub mod Certificates
pub mod Identifiers
mod Labels
mod Items
mod Tables
mod Lines
mod Several
pub mod Marks
mod Sizes
pub mod Issued
pub mod IssuedLists
mod SwitchedLogs
pub mod Accepted
pub mod Modelled
mod Answered
