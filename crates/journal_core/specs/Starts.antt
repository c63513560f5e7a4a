-- What `start` makes of a disk, and what it leaves of one where it refuses.
use Rattle.std.specs.Prelude.{◌≡◌, ◌≢◌, ◌+◌, ◌≤◌, false, [], ◌∷◌, ◌++◌, length, is_some}
use Rattle.std.specs.Prelude.{option_map, IfSome}
use Rattle.byte_formats.specs.Types.{Text}
use Rattle.mtc_io.specs.Counts.{Rose}
use Rattle.disk_core.specs.Times.{OnlyReads}
use Rattle.disk_core.specs.declared.disk.Disk.{Ghosts}
use Rattle.journal_core.specs.Format.{header, record_bytes}
use Rattle.journal_core.specs.Words.{AllRepresent, disk_of, end_of, is_broken, records}
use Rattle.journal_core.specs.declared.error.StartError.{StartError}
use Rattle.journal_core.specs.declared.error.StartError.TheVariants.{Failed, NotEmpty, Memory}
use Rattle.journal_core.specs.declared.journal.Journal.{Journal}

-- An empty disk became a journal of one record, and every crash state of it represents that record.
pub record HasStarted {D : Type 0} {g : Ghosts D} (first : Text) (old : D)
    (new : Journal D g) : Type 0 where
  pub empty : IfSome (g.contents old) (λ bytes. bytes ≡ [])
  pub contents : is_some (g.contents (disk_of new)) ≡ is_some (g.contents old)
  pub list : records new ≡ option_map (λ _. first ∷ []) (g.contents old)
  pub sound : is_broken new ≡ false
  pub end : end_of new ≡ 22 + length first
  pub all : IfSome (records new) (AllRepresent g (disk_of new))
  pub fine : g.faults (disk_of new) ≡ g.faults old
  -- the file is the header and the record
  pub written : g.contents (disk_of new)
      ≡ option_map (λ _. header ++ record_bytes first) (g.contents old)

-- a disk that failed
pub record HasFailed {D : Type 0} (g : Ghosts D) (old new : D) : Type 0 where
  pub later : g.faults old ≤ g.faults new
  pub cause : Rose (g.faults old) (g.faults new)

-- the disk that a refusal returns, by its reason
abbrev pub IsNotStarted : {D : Type 0} → Ghosts D → D → D → StartError → Type 0
IsNotStarted g old new Failed = HasFailed g old new
IsNotStarted g old new NotEmpty =
    IfSome (g.contents old) (λ bytes. bytes ≢ []) × OnlyReads g old new
    × (g.faults new ≡ g.faults old)
IsNotStarted g old new Memory = OnlyReads g old new × (g.faults new ≡ g.faults old)
