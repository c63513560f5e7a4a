-- What a call leaves of the owner of a journal, in errors of its own.
use Rattle.std.proofs.Common.{◌≡◌, Option, Some, None, Ok, Err, refl, subst, sym, arith}
use Rattle.byte_formats.specs.Types.{Text}
use Rattle.disk_core.specs.Times.{LeavesOnly}
use Rattle.disk_core.specs.declared.disk.Disk.{Ghosts}
use Rattle.journal_core.specs.Ends.{durable_records}
use Rattle.journal_core.specs.Format.{RepresentsEither}
use Rattle.journal_core.specs.Owners.{Owner, OwnerAppends, OwnerIsRefused, owner_over}
use Rattle.journal_core.specs.Words.{disk_of, end_of}
use Rattle.journal_core.specs.declared.error.AppendError.{AppendError}
use Rattle.journal_core.specs.declared.journal.Journal.{Journal}
use Rattle.journal_core.proofs.Appends.{untouched_after, untouched_time}
use Rattle.state_journal.proofs.Kept.{of_sound}

module _ {D S X E : Type 0} (g : Ghosts D) (of_journal : E → Option AppendError) (body : Text)
    (next : S) where
  -- a refusal before the append
  pub owner_stays : (journal : Journal D g) (s : S) (why : E) → of_journal why ≡ None
      → ((c : Text) → g.left_since (disk_of journal) (g.clock_at (disk_of journal)) c
      → g.may_leave (disk_of journal) c)
      → OwnerAppends {X = X} g of_journal body next
      (owner_over journal (durable_records journal) s)
      (owner_over journal (durable_records journal) s) (Err why)
  owner_stays journal s why none only_now =
      let owner = owner_over journal (durable_records journal) s in
      record {
        leaves = subst (λ o. OwnerIsRefused g o owner owner) (sym none)
            (record { disk = refl; state = refl; end = refl; broken = refl });
        kept = tt;
        count = omega arith;
        any_time = λ sound. of_sound journal (λ list. LeavesOnly g (disk_of journal)
            (disk_of journal) (RepresentsEither list body)) sound (untouched_time g
            (disk_of journal) (end_of journal) body (journal.is_durable sound) only_now);
        afterwards = λ sound. of_sound journal (λ list. (c : Text)
            → g.may_leave (disk_of journal) c → RepresentsEither list body c) sound
            (untouched_after g (disk_of journal) (end_of journal) body (journal.is_durable sound));
      }

  -- what the append of the machine did, and where it was refused or failed
  pub owner_grows : (old new : Owner D S) (answer : X)
      → OwnerAppends {X = Unit {0}} {E = AppendError} g (λ why. Some why) body next old new (Ok tt)
      → OwnerAppends {X = X} {E = E} g of_journal body next old new (Ok answer)
  owner_grows old new answer did = record {
    leaves = did.leaves;
    kept = did.kept;
    count = did.count;
    any_time = did.any_time;
    afterwards = did.afterwards;
  }

  pub owner_refused : (old new : Owner D S) (why : AppendError) (e : E) → of_journal e ≡ Some why
      → OwnerAppends {X = Unit {0}} {E = AppendError} g (λ why. Some why) body next old new
      (Err why)
      → OwnerAppends {X = X} {E = E} g of_journal body next old new (Err e)
  owner_refused old new why e is did = record {
    leaves = subst (λ o. OwnerIsRefused g o old new) (sym is) did.leaves;
    kept = tt;
    count = did.count;
    any_time = did.any_time;
    afterwards = did.afterwards;
  }
