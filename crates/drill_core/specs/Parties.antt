-- The log of a drill on its devices.
use Rattle.std.specs.Prelude.{◌≡◌, ◌⊎◌, List, [], ◌∷◌, ◌++◌, Ok}
use Rattle.std.proofs.Props.{props}
use Rattle.byte_formats.specs.Types.{Text, HashFunction}
use Rattle.disk_core.specs.Memory.{bytes_of, crash_states_of}
use Rattle.disk_core.specs.declared.memory.mem_disk.MemDisk.{MemDisk}
use Rattle.journal_core.specs.Format.{Represents, RepresentsEither}
use Rattle.journal_core.specs.Durable.{Represents-prop}
use Rattle.journal_core.specs.Ends.{durable_of}
use Rattle.disk_core.specs.declared.disk.Disk.{Ghosts}
use Rattle.issuance_log.specs.Folds.{LogState, log_of, view_in}
use Rattle.issuance_log.specs.Shown.{shown_with}
use Rattle.issuance_log.specs.Words.{log_disk, log_end, view_of}
use Rattle.issuance_log.specs.declared.log.Log.{Log}
use Rattle.tree_core.specs.declared.hashing.TreeHash.{Ghosts as Hashes}
use Rattle.drill_parties.specs.Disks.{records_on}
use Rattle.drill_core.specs.Calls.{log_called, record_of}
use Rattle.drill_core.specs.declared.calls.LogCall.{LogCall}

-- The log whose journal stands on a disk in memory: what it shows over every disk, with the items
-- in the records on that disk before the end of the journal.
abbrev pub log_seen : {H T : Type 0} {hashes : Hashes H} {g : Ghosts MemDisk} {k : Ghosts T}
    → Log H MemDisk T hashes g k → LogState
log_seen log = shown_with (view_of log) (durable_of (log_end log) (bytes_of (log_disk log)))

-- What a disk holds and all that a crash now may leave of it represent its records, and these make
-- this log.
pub record IsLogDisk (h : HashFunction) (s : LogState) (disk : MemDisk) : Type 0 where
  pub holds : Represents (bytes_of disk) (records_on disk)
  pub crash_states : (c : Text) → crash_states_of disk c → Represents c (records_on disk)
  pub valid : log_of h (records_on disk) ≡ Ok s

pub IsLogDisk-prop : (h : HashFunction) (s : LogState) (disk : MemDisk)
    → IsProp (IsLogDisk h s disk)
IsLogDisk-prop h s disk = hlevel (
  props,
  Represents-prop (bytes_of disk) (records_on disk),
  λ (c : Text). Represents-prop c (records_on disk),
)

-- A disk that a stop within a call has left: each of its crash states represents the records from
-- before, or these and that of the call, and both are those of a log.
pub record IsLeft (h : HashFunction) (call : LogCall) (s : LogState) (crash_states : Text → Type 0)
    : Type 0 where
  pub list : List Text
  pub old : log_of h list ≡ Ok s
  pub new : log_of h (list ++ record_of h (view_in s) call ∷ []) ≡ Ok (log_called h s call)
  pub either : (c : Text) → crash_states c → RepresentsEither list (record_of h (view_in s) call) c

-- the log from before, or that which the call makes of it
abbrev pub IsEither : HashFunction → LogCall → LogState → LogState → Type 0
IsEither h call old new = (new ≡ old) ⊎ (new ≡ log_called h old call)
