-- A run that takes the new entries of a log one after another.
use Rattle.std.specs.Prelude.{◌≡◌, ◌+◌, ◌^◌, ◌<◌, ℕ, List, length}
use Rattle.byte_formats.specs.Types.{HashFunction, Text}
use Rattle.tree_peaks.specs.Peaks.{PeaksState}
use Rattle.monitor_core.specs.Monitor.{grown_peaks}
use Rattle.monitor_core.specs.Report.{report_of}
use Rattle.monitor_core.specs.States.{MonitorState}
use Rattle.monitor_core.specs.declared.lines.Line.{Line}

-- The state that it begins with, the domains that it watches, how many entries it took, and what
-- comes of these.
pub record RunParts : Type 0 where
  pub state : MonitorState
  pub watch : List Text
  pub count : ℕ
  pub lines : List Line
  pub peaks : PeaksState

-- How many entries were taken, and what comes of these.
pub record GrowthParts : Type 0 where
  pub count : ℕ
  pub lines : List Line
  pub peaks : PeaksState

-- A run with this state, these domains and what it took.
abbrev pub run_with : MonitorState → List Text → GrowthParts → RunParts
run_with state watch g = record {
  state = state;
  watch = watch;
  count = g.count;
  lines = g.lines;
  peaks = g.peaks;
}

-- It took these entries: it has their report, and the peaks of the list with them, as far as a log
-- has fewer than 2^64 entries.
pub record HasWatched (h : HashFunction) (r : RunParts) (entries : List Text) : Type 0 where
  pub count : r.count ≡ length entries
  pub found : r.state.size + length entries < 2 ^ 64
      → (r.lines ≡ report_of r.watch r.state.size entries)
      × (r.peaks ≡ grown_peaks h r.state entries)
