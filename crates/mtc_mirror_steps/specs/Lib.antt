pub mod ReadSecond
pub mod SecondStands
pub mod StepOutcomes
pub mod StepWorks
