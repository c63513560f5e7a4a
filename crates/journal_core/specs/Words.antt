-- What a journal shows, and what `append` makes of it.
use Rattle.std.specs.Prelude.{◌≡◌, ℕ, ◌+◌, ◌-◌, ◌≤◌, Bool, true, false, List, [], ◌∷◌, ◌++◌, length}
use Rattle.std.specs.Prelude.{Option, option_map, IfSome, Result, Ok, Err}
use Rattle.std.specs.Int.{w32, to_be_bytes}
use Rattle.byte_formats.specs.Types.{Text}
use Rattle.mtc_io.specs.Counts.{Rose}
use Rattle.disk_core.specs.Disk.{overwritten, part}
use Rattle.disk_core.specs.declared.disk.Disk.{Ghosts}
use Rattle.journal_core.specs.Format.{end_offset, Represents, records_of, record_bytes}
use Rattle.journal_core.specs.declared.error.AppendError.{AppendError}
use Rattle.journal_core.specs.declared.error.AppendError.TheVariants.{Failed, Broken, Full}
use Rattle.journal_core.specs.declared.journal.Journal.{Journal}

-- each crash state represents these records
abbrev pub AllRepresent : {D : Type 0} → Ghosts D → D → List Text → Type 0
AllRepresent g disk list = (c : Text) → g.may_leave disk c → Represents c list

-- If the range that was read lies within a body of these records, from so many of its bytes on,
-- this is that part of the body. The body after some of the records begins four bytes after their
-- end.
abbrev pub HoldsBody : ℕ → Text → List Text → Type 0
HoldsBody place read list =
    (prefix : List Text) (body : Text) (back : List Text) (from : ℕ)
    → list ≡ prefix ++ body ∷ back
    → place ≡ end_offset prefix + 4 + from → from + length read ≤ length body
    → read ≡ part from (length read) body

-- The four bytes before a body, if they were read, are its length.
abbrev pub HoldsLength : ℕ → Text → List Text → Type 0
HoldsLength place read list = (prefix : List Text) (body : Text) (back : List Text)
    → list ≡ prefix ++ body ∷ back
    → place ≡ end_offset prefix → length read ≡ 4 → read ≡ to_be_bytes w32 (length body)

-- If the length of the body after some of these records stands at an offset, the number is this
-- length.
abbrev pub HasSize : ℕ → ℕ → List Text → Type 0
HasSize place size list = (prefix : List Text) (body : Text) (back : List Text)
    → list ≡ prefix ++ body ∷ back
    → place ≡ end_offset prefix → (size ≡ length body) × (length body ≤ 131072)

module _ {D : Type 0} {g : Ghosts D} where
  -- The disk of a journal.
  abbrev pub disk_of : Journal D g → D
  disk_of journal = journal.disk

  -- the offset after the closed commit byte
  abbrev pub end_of : Journal D g → ℕ
  end_of journal = journal.end

  -- an earlier append has failed
  abbrev pub is_broken : Journal D g → Bool
  is_broken journal = journal.broken

  -- the records, if the model knows the bytes of the disk
  abbrev pub records : Journal D g → Option (List Text)
  records journal = option_map records_of (g.contents journal.disk)

  -- no call of the disk
  pub record IsUntouched (old new : Journal D g) : Type 0 where
    pub disk : new.disk ≡ old.disk
    pub end : new.end ≡ old.end
    pub broken : new.broken ≡ old.broken

  -- a call of the disk failed, and the journal has to be opened again
  pub record HasBroken (old new : Journal D g) : Type 0 where
    pub cause : Rose (g.faults old.disk) (g.faults new.disk)
    pub broken : new.broken ≡ true
    pub end : new.end ≡ old.end

  -- one record more, and every crash state of the disk represents the records with it
  pub record HasAppended (body : Text) (old new : Journal D g) : Type 0 where
    pub records : records new ≡ option_map (λ list. list ++ body ∷ []) (records old)
    pub end : new.end ≡ old.end + 5 + length body
    pub was_sound : old.broken ≡ false
    pub sound : new.broken ≡ false
    pub all : IfSome (g.contents new.disk) (λ bytes. AllRepresent g new.disk (records_of bytes))
    pub fine : g.faults new.disk ≡ g.faults old.disk
    -- the file is as it was, with the record written over it from the closed commit byte on
    pub written : g.contents new.disk
        ≡ option_map (overwritten (old.end - 1) (record_bytes body)) (g.contents old.disk)

  -- what an append leaves, by its answer
  abbrev pub AppendLeaves : Text → Journal D g → Journal D g → Result (Unit {0}) AppendError
      → Type 0
  AppendLeaves body old new (Ok done) = HasAppended body old new
  AppendLeaves body old new (Err Failed) = HasBroken old new
  AppendLeaves body old new (Err Broken) = IsUntouched old new
  AppendLeaves body old new (Err Full) = IsUntouched old new
