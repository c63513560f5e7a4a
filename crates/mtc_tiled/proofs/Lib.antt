pub mod Results
pub mod OnlyRead
pub mod BadTiles
pub mod Refused
pub mod NotOpened
pub mod Worked
pub mod Commands
