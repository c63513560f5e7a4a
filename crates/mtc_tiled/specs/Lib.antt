pub mod Headers
pub mod BadTiles
pub mod Endings
pub mod Parties
pub mod Openings
pub mod Commands
