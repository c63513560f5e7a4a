-- What the owner of a journal shows, as a log or a cosigner, and what a call that appends a record
-- makes of it.
use Rattle.std.specs.Prelude.{◌≡◌, ℕ, ◌+◌, ◌≤◌, Bool, true, false, List, [], ◌∷◌, ◌++◌, length}
use Rattle.std.specs.Prelude.{Option, Some, None, option_map, IfSome, OnOk, Result, Ok, Err}
use Rattle.byte_formats.specs.Types.{Text}
use Rattle.mtc_io.specs.Counts.{Rose}
use Rattle.disk_core.specs.Times.{LeavesOnly}
use Rattle.disk_core.specs.declared.disk.Disk.{Ghosts}
use Rattle.journal_core.specs.Format.{RepresentsEither}
use Rattle.journal_core.specs.Words.{AllRepresent, disk_of, end_of, is_broken}
use Rattle.journal_core.specs.declared.error.AppendError.{AppendError}
use Rattle.journal_core.specs.declared.error.AppendError.TheVariants.{Broken, Failed, Full}
use Rattle.journal_core.specs.declared.journal.Journal.{Journal}

-- its disk, the records that it shows if the model knows the bytes of the disk, the end of its
-- journal, whether an append has failed, and its state
pub record Owner (D S : Type 0) : Type 0 where
  pub disk : D
  pub records : Option (List Text)
  pub end : ℕ
  pub broken : Bool
  pub state : S

-- the owner of this journal, which shows these records and this state
abbrev pub owner_over : {D S : Type 0} {g : Ghosts D} → Journal D g → Option (List Text) → S
    → Owner D S
owner_over journal list state = record {
  disk = disk_of journal;
  records = list;
  end = end_of journal;
  broken = is_broken journal;
  state = state;
}

module _ {D S : Type 0} where
  -- no call of the disk, and the owner is as it was
  pub record OwnerIsUntouched (old new : Owner D S) : Type 0 where
    pub disk : new.disk ≡ old.disk
    pub state : new.state ≡ old.state
    pub end : new.end ≡ old.end
    pub broken : new.broken ≡ old.broken

  -- a call of the disk failed: the owner has to be opened again, and has the state and the end that
  -- it had
  pub record OwnerHasBroken (g : Ghosts D) (old new : Owner D S) : Type 0 where
    pub cause : Rose (g.faults old.disk) (g.faults new.disk)
    pub state : new.state ≡ old.state
    pub end : new.end ≡ old.end
    pub was_sound : old.broken ≡ false
    pub broken : new.broken ≡ true

  -- this record more, which makes this state of the old one
  pub record OwnerHasGrown (g : Ghosts D) (body : Text) (next : S) (old new : Owner D S)
      : Type 0 where
    pub records : new.records ≡ option_map (λ list. list ++ body ∷ []) old.records
    pub state : new.state ≡ next
    pub end : new.end ≡ old.end + 5 + length body
    pub was_sound : old.broken ≡ false
    pub sound : new.broken ≡ false
    pub fine : g.faults new.disk ≡ g.faults old.disk

  -- what a refusal leaves, where it is this one of the journal, or none of the journal
  abbrev pub OwnerIsRefused : Ghosts D → Option AppendError → Owner D S → Owner D S → Type 0
  OwnerIsRefused g None old new = OwnerIsUntouched old new
  OwnerIsRefused g (Some Failed) old new = OwnerHasBroken g old new
  OwnerIsRefused g (Some Broken) old new = OwnerIsUntouched old new
  OwnerIsRefused g (Some Full) old new = OwnerIsUntouched old new

  -- What a call that appends this record leaves, by its answer. A parameter says which of the
  -- refusals are the journal's.
  abbrev pub OwnerLeaves : {X E : Type 0} → Ghosts D → (E → Option AppendError) → Text → S
      → Owner D S → Owner D S → Result X E → Type 0
  OwnerLeaves g of_journal body next old new (Ok answer) = OwnerHasGrown g body next old new
  OwnerLeaves g of_journal body next old new (Err why) =
      OwnerIsRefused g (of_journal why) old new

  -- What a call does that appends this record, which makes this state of the old one. By its answer
  -- it leaves the owner so, and at Ok a crash leaves the records with this one. At any time of the
  -- call, and after it, a crash leaves the old records, or these and this one, unless an append had
  -- failed before.
  pub record OwnerAppends {X E : Type 0} (g : Ghosts D) (of_journal : E → Option AppendError)
      (body : Text) (next : S) (old new : Owner D S) (result : Result X E) : Type 0 where
    pub leaves : OwnerLeaves g of_journal body next old new result
    pub kept : OnOk result (IfSome old.records
        (λ list. AllRepresent g new.disk (list ++ body ∷ [])))
    pub count : g.faults old.disk ≤ g.faults new.disk
    pub any_time : old.broken ≡ false → IfSome old.records
        (λ list. LeavesOnly g old.disk new.disk (RepresentsEither list body))
    pub afterwards : old.broken ≡ false → IfSome old.records
        (λ list. (c : Text) → g.may_leave new.disk c → RepresentsEither list body c)
