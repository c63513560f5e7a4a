pub mod MirrorOutcomes
pub mod Works
pub mod StoredTiles
pub mod OpenMirrors
pub mod Commands
