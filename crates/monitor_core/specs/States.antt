-- What a monitor keeps of a log.
use Rattle.std.specs.Prelude.{◌≡◌, ◌^◌, ◌<◌, ℕ, List, [], length, map, count_ones}
use Rattle.std.specs.List.{AllByRecursion}
use Rattle.byte_formats.specs.Types.{Hash, HashFunction, Text}
use Rattle.byte_formats.specs.Offsets.{IsBytes}
use Rattle.tree_core.specs.Tree.{leaf_hash}
use Rattle.tree_peaks.specs.Peaks.{ArePeaksOf, PeaksState}
use Rattle.tls_wire.specs.Arcs.{IsAnchorId}

-- The id of the log, how many entries it has, and the peaks of its tree.
pub record MonitorState : Type 0 where
  pub log : Text
  pub size : ℕ
  pub peaks : List Hash

-- That of a log without entries.
abbrev pub empty_state : Text → MonitorState
empty_state log = record { log = log; size = 0; peaks = [] }

-- The size and the peaks.
abbrev pub kept_peaks : MonitorState → PeaksState
kept_peaks s = record { size = s.size; peaks = s.peaks }

-- The log has these entries: the state has their number and the peaks of their tree.
abbrev pub IsStateOf : HashFunction → List Text → MonitorState → Type 0
IsStateOf h entries s = ArePeaksOf h (map (leaf_hash h) entries) (kept_peaks s)

-- A hash of 32 bytes.
abbrev pub IsHash : Hash → Type 0
IsHash hash = (length hash ≡ 32) × IsBytes hash

-- The state of a log whose size may stand in a text, with as many peaks as the size has ones in
-- binary.
pub record IsKept (s : MonitorState) : Type 0 where
  pub log : IsAnchorId s.log
  pub size : s.size < 2 ^ 63
  pub count : length s.peaks ≡ count_ones s.size
  pub hashes : AllByRecursion IsHash s.peaks
