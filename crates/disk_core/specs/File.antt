-- What a `FileDisk` shows.
use Rattle.std.specs.Prelude.{◌≡◌, ℕ, Bool, true, false, ◌&&◌, ◌||◌, not, if◌then◌else◌}
use Rattle.mtc_io.specs.Counts.{with_count}
use Rattle.disk_core.specs.declared.file.FileDisk.{FileDisk}
use Rattle.disk_core.specs.declared.memory.call.Call.{Call}
use Rattle.disk_core.specs.declared.memory.call.Call.TheVariants.{Len, Read, Write, Sync}

-- it is the call that makes durable what is there
abbrev pub is_sync : Call → Bool
is_sync Len = false
is_sync (Read place size) = false
is_sync (Write place piece) = false
is_sync Sync = true

module _ {F : Type 0} where
  -- the open file
  abbrev pub open_file : FileDisk F → F
  open_file d = d.file

  -- its known length
  abbrev pub file_known : FileDisk F → ℕ
  file_known d = d.known

  -- its count of failures
  abbrev pub file_faults : FileDisk F → ℕ
  file_faults d = d.faults

  -- its clock
  abbrev pub file_clock : FileDisk F → ℕ
  file_clock d = d.clock

  -- a sync of it has failed
  abbrev pub is_file_lost : FileDisk F → Bool
  is_file_lost d = d.lost

  -- One call: it fails with one failure more, or counts none. On a lost file each call fails. A
  -- sync that fails loses the file, and nothing else does.
  pub record FileTurn (old : FileDisk F) (call : Call) (ok : Bool) (new : FileDisk F) : Type 0 where
    pub counted : new.faults ≡ (if ok then old.faults else with_count old.faults 1)
    pub refused : old.lost ≡ true → ok ≡ false
    pub lost : new.lost ≡ (old.lost || (is_sync call && not ok))
