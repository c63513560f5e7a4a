pub mod FourFiles
pub mod StepsLeft
pub mod StateFiles
