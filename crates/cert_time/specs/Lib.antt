pub mod Calendar
pub mod Forms
pub mod Texts
pub mod Times
pub mod Periods
