pub mod KeygenOutcome
pub mod InitOutcome
pub mod CosignerOutcomes
pub mod Works
