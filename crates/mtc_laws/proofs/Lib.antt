pub mod Commands
pub mod Aliases
pub mod Opened
pub mod Beside
pub mod HeardBytes
pub mod Streams
pub mod Leaves
pub mod RunLaws
pub mod HeardRuns
pub mod Recovered
pub mod Exports
pub mod Audits
pub mod AuditsDecide
pub mod Convicted
pub mod Printed
pub mod Secrets
pub mod ExportsGrow
pub mod AskedSteps
pub mod MisreadBoth
pub mod PrintedStands
pub mod Misread
pub mod Together
pub mod TilesBeside
pub mod LogLeaves
pub mod TilesStay
mod AcceptedLists
mod Acceptances
mod Bundled
mod ByMirror
mod CertTexts
mod Certified
mod Counted
mod Covering
mod DoneAt
mod Issuable
mod Listed
mod PemTexts
pub mod KilledRuns
mod MirrorRuns
pub mod MirrorTiles
pub mod MirrorsAgree
mod Monitored
mod OneFile
mod PathHashes
mod PrintedSignatures
mod RecordBytes
mod Recordings
mod Requested
mod SoundLogs
mod Taken
mod Unrefused
mod ValidStores
mod Verified
mod Writing
