-- One run of a monitor.
use Rattle.std.specs.Prelude.{ℕ, ◌-◌, ◌==◌, not, nat_le, if◌then◌else◌, List, length, map, Option}
use Rattle.std.specs.Prelude.{Some, None, Result, Ok, bytes_eq}
use Rattle.byte_formats.specs.Types.{Hash, HashFunction, Text}
use Rattle.byte_formats.specs.Readings.{◌>>=◌}
use Rattle.byte_formats.specs.Refusals.{answer_of}
use Rattle.tree_core.specs.Tree.{leaf_hash}
use Rattle.tree_proofs.specs.Checkpoints.{is_prefix_of}
use Rattle.tree_proofs.specs.declared.checkpoint.Checkpoint.{Checkpoint}
use Rattle.tree_peaks.specs.Peaks.{PeaksState, root_of_peaks, with_leaves}
use Rattle.monitor_core.specs.States.{MonitorState, kept_peaks}
use Rattle.monitor_core.specs.Report.{Findings, report_of}
use Rattle.monitor_core.specs.declared.error.MonitorError.{MonitorError}
use Rattle.monitor_core.specs.declared.error.MonitorError.TheVariants.{BadProof, ItemCount}
use Rattle.monitor_core.specs.declared.error.MonitorError.TheVariants.{NotNewer, RootDiffers}
use Rattle.monitor_core.specs.declared.error.MonitorError.TheVariants.{WrongLog}

-- The peaks with the leaves of more entries.
abbrev pub grown_peaks : HashFunction → MonitorState → List Text → PeaksState
grown_peaks h s entries = with_leaves h (kept_peaks s) (map (leaf_hash h) entries)

-- The size of the state, and the root that its peaks give.
abbrev pub kept_checkpoint : HashFunction → MonitorState → Checkpoint
kept_checkpoint h s = record { size = s.size; root = root_of_peaks h s.peaks }

-- The first refusal that holds, of so many new entries, with which the list has the root that is
-- named last, and which lead from the state to this size and root of the log with this id, as the
-- proof shows.
abbrev pub refusal_by : HashFunction → MonitorState → Text → ℕ → Hash → List Hash → ℕ → Hash
    → Option MonitorError
refusal_by h s log size root proof have found =
    if not (bytes_eq log s.log) then Some WrongLog
    else (if nat_le size s.size then Some (NotNewer s.size)
    else (if not (have == size - s.size) then Some (ItemCount have (size - s.size))
    else (if not (is_prefix_of h (kept_checkpoint h s) size root proof) then Some BadProof
    else (if not (bytes_eq found root) then Some (RootDiffers root found) else None))))

-- The same of these new entries.
unfoldable pub monitor_refusal : HashFunction → MonitorState → Text → ℕ → Hash → List Hash
    → List Text → Option MonitorError
monitor_refusal h s log size root proof entries =
    refusal_by h s log size root proof (length entries)
    (root_of_peaks h (grown_peaks h s entries).peaks)

-- What is found: the report of the new entries, and the state with them.
abbrev pub found_of : HashFunction → MonitorState → List Text → List Text → Findings
found_of h s watch entries =
    let grown = grown_peaks h s entries in
    record {
      lines = report_of watch s.size entries;
      state = record { log = s.log; size = grown.size; peaks = grown.peaks };
    }

-- The whole answer.
abbrev pub monitor_of : HashFunction → MonitorState → List Text → Text → ℕ → Hash → List Hash
    → List Text → Result Findings MonitorError
monitor_of h s watch log size root proof entries =
    answer_of (monitor_refusal h s log size root proof entries) >>= λ passed.
    Ok (found_of h s watch entries)
