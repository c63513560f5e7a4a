-- What a kind of journal makes of its records, and how a file is read as one: the first record that
-- breaks the rules, or else how the file ends.
use Rattle.std.specs.Prelude.{◌≡◌, ℕ, ◌+◌, List, [], ◌∷◌, take, Option, IfSome, Result, Ok, Err}
use Rattle.std.specs.Prelude.{if◌then◌else◌}
use Rattle.std.specs.Str.{bytes_eq}
use Rattle.byte_formats.specs.Types.{Text}
use Rattle.byte_formats.specs.Readings.{◌>>=◌, lifted, some_or}
use Rattle.mtc_io.specs.Counts.{Rose}
use Rattle.disk_core.specs.declared.disk.Disk.{Ghosts}
use Rattle.journal_core.specs.Format.{header}
use Rattle.journal_core.specs.Walk.{FileEnd, at_commit_byte, at_bad_length, at_cut, FileWalk}
use Rattle.journal_core.specs.Walk.{walk_of}
use Rattle.journal_core.specs.declared.error.OpenError.{OpenError}
use Rattle.journal_core.specs.declared.error.OpenError.TheVariants.{NotJournal, BadLength, CutShort}
use Rattle.journal_core.specs.declared.error.OpenError.TheVariants.{Failed, Memory}

-- A kind of journal: the state that a first record begins, and the state after one record more,
-- each none where the record breaks the rules. Its errors: a record by its number that breaks the
-- rules, and a file that is no journal.
pub record Fold (S E : Type 0) : Type 0 where
  pub begins : Text → Option S
  pub takes : S → Text → Option S
  pub bad_record : ℕ → E
  pub not_read : OpenError → E

-- what was read of a file: the records of its journal, and the state after them
pub record Found (S : Type 0) : Type 0 where
  pub records : List Text
  pub state : S

-- the state after records, the first of which has number k; or the number of the first one that
-- breaks the rules
unfoldable pub taken_from : {S E : Type 0} → Fold S E → ℕ → S → List Text → Result S ℕ
taken_from fold k s [] = Ok s
taken_from fold k s (body ∷ bodies) =
    some_or k (fold.takes s body) >>= λ t. taken_from fold (k + 1) t bodies

-- The state after all records of a journal, or the number of the first one that breaks the rules.
-- Without a record the first one is missing.
unfoldable pub state_after : {S E : Type 0} → Fold S E → List Text → Result S ℕ
state_after fold [] = Err 0
state_after fold (first ∷ bodies) =
    some_or 0 (fold.begins first) >>= λ s. taken_from fold 1 s bodies

-- where the records end at the closed commit byte, this; else the file is no journal
abbrev pub closing : {S E X : Type 0} → Fold S E → FileEnd → Result X E → Result X E
closing fold at_commit_byte found = found
closing fold (at_bad_length place) found = Err (fold.not_read (BadLength place))
closing fold (at_cut place) found = Err (fold.not_read (CutShort place))

-- The whole records are tested, and then what follows them. That there is no record at all is an
-- error only if the records end at a closed commit byte.
abbrev pub tested : {S E : Type 0} → Fold S E → List Text → FileEnd → Result S E
tested fold [] end = closing fold end (Err (fold.bad_record 0))
tested fold (first ∷ bodies) end =
    lifted fold.bad_record (state_after fold (first ∷ bodies)) >>= λ s. closing fold end (Ok s)

-- a walk whose records are tested
abbrev pub walked : {S E : Type 0} → Fold S E → FileWalk → Result (Found S) E
walked fold walk =
    tested fold walk.records walk.end
    >>= λ s. Ok (record { records = walk.records; state = s })

-- The journal in a file with these bytes, or the first fault.
unfoldable pub read_by : {S E : Type 0} → Fold S E → Text → Result (Found S) E
read_by fold bytes =
    if bytes_eq (take 16 bytes) header then walked fold (walk_of bytes)
    else Err (fold.not_read NotJournal)

-- the bytes that the model knows are refused so
abbrev pub AreRefused : {S E : Type 0} → Fold S E → Option Text → E → Type 0
AreRefused fold contents why = IfSome contents (λ bytes. read_by fold bytes ≡ Err why)

-- the cause of a file that is no journal, over the disk before the call and after it: the bytes, or
-- a failure; of memory that ran out it says nothing
abbrev pub IsCauseOf : {D S E : Type 0} → Ghosts D → Fold S E → D → D → OpenError → Type 0
IsCauseOf g fold old new NotJournal = AreRefused fold (g.contents old) (fold.not_read NotJournal)
IsCauseOf g fold old new (BadLength place) =
    AreRefused fold (g.contents old) (fold.not_read (BadLength place))
IsCauseOf g fold old new (CutShort place) =
    AreRefused fold (g.contents old) (fold.not_read (CutShort place))
IsCauseOf g fold old new Failed = Rose (g.faults old) (g.faults new)
IsCauseOf g fold old new Memory = Unit {0}
