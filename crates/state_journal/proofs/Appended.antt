-- What an append leaves of a journal and its machine.
use Rattle.std.proofs.Common.{◌≡◌, ℕ, ◌+◌, ◌-◌, List, [], ◌∷◌, ◌++◌, length, Option, Some}
use Rattle.std.proofs.Common.{IfSome, option_map, Result, Ok, Err, refl, sym, ap, ◌∙◌}
use Rattle.std.proofs.Common.{IsTrue, false, subst, arith}
use Rattle.std.specs.Prelude.{is_some}
use Rattle.std.proofs.lemmas.Option.{same_Some}
use Rattle.byte_formats.specs.Types.{Text}
use Rattle.disk_core.specs.Times.{LeavesOnly}
use Rattle.disk_core.specs.declared.disk.Disk.{Ghosts}
use Rattle.journal_core.specs.Ends.{durable_records}
use Rattle.journal_core.specs.Format.{RepresentsEither, following}
use Rattle.journal_core.specs.Words.{AllRepresent, disk_of, end_of, is_broken, records}
use Rattle.journal_core.specs.declared.error.AppendError.{AppendError}
use Rattle.journal_core.specs.declared.journal.Journal.{Journal}
use Rattle.journal_core.proofs.Appends.{all_kept}
use Rattle.journal_core.proofs.Folds.{state_next}
use Rattle.journal_core.proofs.Owners.{refused_by}
use Rattle.journal_core.specs.Appends.{JournalAppends}
use Rattle.state_journal.specs.Machines.{HasTakenAppended, IsMadeBy, Makes, fold_of}
use Rattle.state_journal.specs.Steps.{HasNextMachine}
use Rattle.state_journal.specs.declared.machine.StateMachine.{Ghosts as Machines}
use Rattle.state_journal.proofs.Kept.{appended_keeps, end_stays, of_sound, sound_records, stay_kept}

-- a record that makes a state is allowed
pub is_allowed : {S : Type 0} (o : Option S) (t : S) → o ≡ Some t → IsTrue (is_some o)
is_allowed o t is = subst (λ p. IsTrue (is_some p)) (sym is) refl

module _ {M X R : Type 0} (m : Machines M X R) where
  makes_next : (was now : M) (place : ℕ) (body : Text)
      → HasNextMachine m.takes m.state m.Keeps place body was now
      → (list : List Text) → Makes m was list → place ≡ following 16 list
      → Makes m now (list ++ body ∷ [])
  makes_next was now place body next list makes there = record {
    made = state_next (fold_of m) list (m.state was) body (m.state now) makes.made next.next;
    keeps = next.keeps list makes.keeps there;
  }

  module _ {D : Type 0} {g : Ghosts D} where
    -- the new record is taken
    pub made_next : (old new : Journal D g) (was now : M) (place : ℕ) (body : Text)
        → place ≡ end_of old - 1 → JournalAppends body old new (Ok tt)
        → HasNextMachine m.takes m.state m.Keeps place body was now
        → m.Within now (place + 5 + length body)
        → IsMadeBy m old was → IsMadeBy m new now
    made_next old new was now place body there did next within made = record {
      durable = appended_keeps (Makes m was) (Makes m now) old new body did
          (λ list makes last. makes_next was now place body next list makes
          (omega (arith, there, last))) made.durable;
      within = subst (m.Within now) (omega (arith, there, did.leaves.end, old.begun)) within;
    }

    -- nothing was appended
    pub made_still : (old new : Journal D g) (it : M) (body : Text) (why : AppendError)
        → JournalAppends body old new (Err why) → IsMadeBy m old it → IsMadeBy m new it
    made_still old new it body why did made = record {
      durable = (stay_kept (Makes m it) old new body why did made.durable).0;
      within = subst (λ (n : ℕ). m.Within it (n - 1)) (sym (end_stays old new body why did))
          made.within;
    }

    pub records_stay : (old new : Journal D g) (it : M) (body : Text) (why : AppendError)
        → JournalAppends body old new (Err why) → IsMadeBy m old it
        → durable_records new ≡ durable_records old
    records_stay old new it body why did made =
        (stay_kept (Makes m it) old new body why did made.durable).1

    -- at any time of the call, and after it, of the durable records
    times : (old new : Journal D g) (body : Text) (result : Result (Unit {0}) AppendError)
        → JournalAppends body old new result → is_broken old ≡ false
        → IfSome (durable_records old) (λ list.
        LeavesOnly g (disk_of old) (disk_of new) (RepresentsEither list body))
    times old new body result did sound =
        of_sound old (λ list. LeavesOnly g (disk_of old) (disk_of new) (RepresentsEither list body))
        sound (did.any_time sound)

    following_it : (old new : Journal D g) (body : Text) (result : Result (Unit {0}) AppendError)
        → JournalAppends body old new result → is_broken old ≡ false
        → IfSome (durable_records old) (λ list.
        (c : Text) → g.may_leave (disk_of new) c → RepresentsEither list body c)
    following_it old new body result did sound =
        of_sound old (λ list. (c : Text) → g.may_leave (disk_of new) c
        → RepresentsEither list body c) sound (did.afterwards sound)

    pub has_appended : (old new : Journal D g) (was now : M) (place : ℕ) (body : Text)
        (next : m.State) → JournalAppends body old new (Ok tt)
        → HasNextMachine m.takes m.state m.Keeps place body was now
        → m.takes (m.state was) body ≡ Some next
        → HasTakenAppended m body old was new now (Ok tt) next
    has_appended old new was now place body next did took is =
        let sound = sound_records old did.leaves.was_sound in
        record {
          leaves = record {
            records = sound_records new did.leaves.sound ∙ did.leaves.records
                ∙ ap (option_map (λ list. list ++ body ∷ [])) (sym sound);
            state = same_Some (m.state now) next (sym took.next ∙ is);
            end = did.leaves.end;
            was_sound = did.leaves.was_sound;
            sound = did.leaves.sound;
            fine = did.leaves.fine;
          };
          kept = of_sound old (λ list. AllRepresent g (disk_of new) (list ++ body ∷ []))
              did.leaves.was_sound (all_kept g (disk_of new) (g.contents (disk_of new))
              (records old) body body did.leaves.records refl did.leaves.all);
          count = did.count;
          any_time = times old new body (Ok tt) did;
          afterwards = following_it old new body (Ok tt) did;
        }

    pub not_appended : (old new : Journal D g) (it : M) (body : Text) (why : AppendError)
        (next : m.State) → JournalAppends body old new (Err why)
        → HasTakenAppended m body old it new it (Err why) next
    not_appended old new it body why next did = record {
      leaves = refused_by old new body (durable_records old) (durable_records new) (m.state it)
          (m.state it) refl why did.leaves did.broken;
      kept = tt;
      count = did.count;
      any_time = times old new body (Err why) did;
      afterwards = following_it old new body (Err why) did;
    }
