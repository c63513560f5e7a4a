pub mod Order
pub mod Frames
pub mod Sound
pub mod Borrowing
