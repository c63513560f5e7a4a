pub mod Loops
pub mod Integers
pub mod Sets
pub mod Elements
pub mod Rules
pub mod Fields
pub mod FieldLaws
pub mod Takes
