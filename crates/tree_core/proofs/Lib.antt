pub mod Powers
pub mod Subtrees
pub mod Roots
pub mod Evaluates
pub mod Paths
pub mod Covers
