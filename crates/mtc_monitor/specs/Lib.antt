pub mod RootOutcome
pub mod HeldOutcome
pub mod MonitorOutcome
pub mod StateFiles
pub mod Asked
