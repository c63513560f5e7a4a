pub mod Entries
pub mod Forms
pub mod Reading
pub mod EntryOf
pub mod Matching
pub mod Views
pub mod Reasons
