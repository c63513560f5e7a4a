pub mod Kept
pub mod Taken
pub mod Refusals
pub mod Appended
pub mod Owners
pub mod Answered
