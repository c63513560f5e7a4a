-- The words of an authority's contracts.
pub use Rattle.issuance_log.specs.Words.{log_broken, modelled_state, view_of}
pub use Rattle.mtc_library.specs.Beginnings.{HasNewJournal, IsNewLog}
