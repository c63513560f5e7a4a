pub mod EntryForm
pub mod Matches
