-- One step of the reading of a file, whose records a machine takes.
use Rattle.std.proofs.Common.{◌≡◌, ℕ, ◌+◌, List, [], length, Option, Some, None, IfSome}
use Rattle.std.proofs.Common.{option_map, Ok, refl, sym, ap, subst, arith}
use Rattle.byte_formats.specs.Types.{Text}
use Rattle.disk_core.specs.Times.{OnlyReads}
use Rattle.disk_core.specs.declared.disk.Disk.{Ghosts}
use Rattle.journal_core.specs.Durable.{IsReading}
use Rattle.journal_core.specs.Folds.{state_after}
use Rattle.journal_core.specs.Format.{following, records_before}
use Rattle.journal_core.specs.Openings.{HasEnded, HasRead, last_body, next_offset, opening_disk}
use Rattle.journal_core.specs.Openings.{read_list}
use Rattle.journal_core.specs.Readings.{HasFolded}
use Rattle.journal_core.specs.declared.opening.Opening.{Opening}
use Rattle.journal_core.proofs.FoldSteps.{all_empty, folded_first, folded_next, found_last}
use Rattle.journal_core.proofs.FoldSteps.{if_pushed, list_is, pushed, refused_first, refused_next}
use Rattle.state_journal.specs.Causes.{HasStateCause, refusal_at}
use Rattle.state_journal.specs.Machines.{HasTaken, HasTakenAll, Makes, fold_of}
use Rattle.state_journal.specs.Steps.{HasNextMachine, IsBegunMachine, IsMisfitOf}
use Rattle.state_journal.specs.declared.error.Misfit.{Misfit}
use Rattle.state_journal.specs.declared.error.Misfit.TheVariants.{Unfit, Memory}
use Rattle.state_journal.specs.declared.machine.StateMachine.{Ghosts as Machines}

-- the records that were read end at the next commit byte
placed : {D : Type 0} {g : Ghosts D} (P : List Text → Type 0) (opening : Opening D g)
    → IfSome (read_list opening) P
    → IfSome (read_list opening) (λ list. P list × (next_offset opening ≡ following 16 list))
placed {D} {g} P opening holds =
    go (g.contents (opening_disk opening)) opening.reading holds
  where
    go : (contents : Option Text) → ((b : Text) → contents ≡ Some b
        → IsReading b (g.may_leave (opening_disk opening)) (next_offset opening))
        → IfSome (option_map (λ b. records_before b (next_offset opening)) contents) P
        → IfSome (option_map (λ b. records_before b (next_offset opening)) contents)
        (λ list. P list × (next_offset opening ≡ following 16 list))
    go None reading is = tt
    go (Some b) reading is = (is, (reading b refl).offset_is)

module _ {M X R : Type 0} (m : Machines M X R) {D : Type 0} {g : Ghosts D}
    (old new : Opening D g) where
  module _ (body : Text) (last : last_body new ≡ body) (read : HasRead old new) where
    -- the first record begins the machine
    pub taken_first : (it : M)
        → read_list old ≡ option_map (λ _. []) (g.contents (opening_disk old))
        → next_offset old ≡ 16 → IsBegunMachine m.begins m.state m.Keeps body it
        → m.Within it (21 + length body) → HasTaken m it new
    taken_first it none place begun within = record {
      folded = folded_first (fold_of m) old new body last read (m.state it) none begun.begun;
      keeps = if_pushed (λ (list : List Text). list ≡ []) (m.Keeps it) (read_list old)
          (read_list new) body (list_is (fold_of m) old new body last read)
          (λ list empty. subst (λ (l : List Text). m.Keeps it (pushed body l)) (sym empty)
          begun.keeps) (all_empty _ (read_list old) none);
      within = subst (m.Within it) (omega (arith, place, read.place, ap length last)) within;
    }

    -- the machine takes one record more
    pub taken_next : (was now : M) (place : ℕ) → place ≡ next_offset old → HasTaken m was old
        → HasNextMachine m.takes m.state m.Keeps place body was now
        → m.Within now (place + 5 + length body) → HasTaken m now new
    taken_next was now place there taken next within = record {
      folded = folded_next (fold_of m) old new body last read (m.state was) (m.state now)
          taken.folded next.next;
      keeps = if_pushed (λ (list : List Text). m.Keeps was list
          × (next_offset old ≡ following 16 list)) (m.Keeps now) (read_list old) (read_list new)
          body
          (list_is (fold_of m) old new body last read)
          (λ list is. next.keeps list is.0 (omega (arith, there, is.1)))
          (placed (m.Keeps was) old taken.keeps);
      within = subst (m.Within now) (omega (arith, there, read.place, ap length last)) within;
    }

    module _ (only_reads : OnlyReads g (opening_disk old) (opening_disk new)) where
      -- the record with this number is not taken
      pub cause_taken : (was : M) (k : ℕ) (why : Misfit)
          → IfSome (read_list old) (λ list. k ≡ length list)
          → HasFolded (fold_of m) (m.state was) old
          → IsMisfitOf (m.takes (m.state was) body) why
          → HasStateCause g (fold_of m) (opening_disk old) (opening_disk new) (refusal_at k why)
      cause_taken was k Unfit count folded takes =
          refused_next (fold_of m) old new body last read only_reads (m.state was) k count folded
          takes
      cause_taken was k Memory count folded takes = tt

      -- nor is the first one
      pub cause_begun : (why : Misfit)
          → read_list old ≡ option_map (λ _. []) (g.contents (opening_disk old))
          → IsMisfitOf (m.begins body) why
          → HasStateCause g (fold_of m) (opening_disk old) (opening_disk new) (refusal_at 0 why)
      cause_begun Unfit none begins =
          refused_first (fold_of m) old new body last read only_reads none begins
      cause_begun Memory none begins = tt

  -- the closed commit byte
  pub taken_all : (it : M) → HasEnded old new
      → OnlyReads g (opening_disk old) (opening_disk new) → HasTaken m it old
      → HasTakenAll m it new
  taken_all it ended only_reads taken = record {
    found = found_last (fold_of m) old new ended only_reads (m.state it) taken.folded;
    keeps = subst (λ (o : Option (List Text)). IfSome o (m.Keeps it)) (sym ended.list) taken.keeps;
    within = subst (m.Within it) (sym ended.place) taken.within;
  }

-- all of them make it
pub makes_all : {M X R : Type 0} (m : Machines M X R) {D : Type 0} {g : Ghosts D} (it : M)
    (opening : Opening D g) → HasTakenAll m it opening → IfSome (read_list opening) (Makes m it)
makes_all m it opening all = go (read_list opening) all.found.made all.keeps
  where
    go : (list : Option (List Text))
        → IfSome list (λ l. state_after (fold_of m) l ≡ Ok (m.state it))
        → IfSome list (m.Keeps it) → IfSome list (Makes m it)
    go None made keeps = tt
    go (Some list) made keeps = record { made = made; keeps = keeps }
