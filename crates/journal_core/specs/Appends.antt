-- What `append` does, whatever it answers.
use Rattle.std.specs.Prelude.{◌≡◌, ◌↔◌, ◌<◌, ◌≤◌, ◌+◌, max, false, length, is_some, IfSome}
use Rattle.std.specs.Prelude.{Result, IsTrue, IsErrOf}
use Rattle.byte_formats.specs.Types.{Text}
use Rattle.disk_core.specs.Times.{LeavesOnly}
use Rattle.disk_core.specs.declared.disk.Disk.{Ghosts}
use Rattle.journal_core.specs.Format.{RepresentsEither, most_bytes}
use Rattle.journal_core.specs.Words.{AppendLeaves, disk_of, end_of, is_broken, records}
use Rattle.journal_core.specs.declared.error.AppendError.{AppendError}
use Rattle.journal_core.specs.declared.error.AppendError.TheVariants.{Broken, Full}
use Rattle.journal_core.specs.declared.journal.Journal.{Journal}

-- By its answer it leaves the journal so. `Broken` comes exactly if an earlier append failed, and
-- `Full` exactly if the journal is sound and the file would pass its longest. The known length
-- comes no further than the closed commit byte after the record. What is read then, what a crash
-- leaves then, and what it leaves at any time of the call represents the old records, or these and
-- the new one, unless an append had failed before.
pub record JournalAppends {D : Type 0} {g : Ghosts D} (body : Text) (old new : Journal D g)
    (result : Result (Unit {0}) AppendError) : Type 0 where
  pub leaves : AppendLeaves body old new result
  pub broken : IsErrOf result Broken ↔ IsTrue (is_broken old)
  pub full : IsErrOf result Full
      ↔ (is_broken old ≡ false) × (most_bytes < end_of old + 5 + length body)
  pub contents : is_some (records new) ≡ is_some (records old)
  pub count : g.faults (disk_of old) ≤ g.faults (disk_of new)
  pub reach : g.known (disk_of new) ≤ max (end_of old + 5 + length body) (g.known (disk_of old))
  pub as_read : is_broken old ≡ false → IfSome (records old)
      (λ list. IfSome (g.contents (disk_of new)) (RepresentsEither list body))
  pub afterwards : is_broken old ≡ false → IfSome (records old)
      (λ list. (c : Text) → g.may_leave (disk_of new) c → RepresentsEither list body c)
  pub any_time : is_broken old ≡ false → IfSome (records old)
      (λ list. LeavesOnly g (disk_of old) (disk_of new) (RepresentsEither list body))
