pub mod Sizes
pub mod LogForms
pub mod Labels
