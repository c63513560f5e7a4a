pub mod Landmarks
pub mod Limits
pub mod Reasons
pub mod Texts
pub mod Views
