pub mod BothWays
pub mod Coverings
pub mod Lines
pub mod Sizes
pub mod Walks
