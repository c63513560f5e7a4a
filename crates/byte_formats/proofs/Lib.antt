pub mod Steps
pub mod FormLaws
pub mod FormLists
pub mod Left
pub mod Loops
pub mod Digits
pub mod Values
