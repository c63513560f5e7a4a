pub mod BothWays
pub mod Dates
pub mod Forms
pub mod UnixTimes
pub mod Encoding
