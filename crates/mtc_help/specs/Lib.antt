pub mod HelpOutcome
pub mod Listing
