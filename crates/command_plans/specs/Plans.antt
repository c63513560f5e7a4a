-- A command as data: the files that it reads, its journals, and what it does with the bytes of
-- those files.
use Rattle.std.specs.Prelude.{◌≡◌, ◌⊎◌, ℕ, Bool, List, [], ◌∷◌, Option, Result, Ok, Err}
use Rattle.byte_formats.specs.Types.{HashFunction, Text}
use Rattle.journal_core.specs.Folds.{Found}
use Rattle.mtc_command.specs.declared.answer.Said.{Said}
use Rattle.command_plans.specs.Kinds.{Kinds}

-- ---- the files that it reads

-- A file by its name, of which at most so many bytes are read.
pub record Input : Type 0 where
  pub limit : ℕ
  pub name : Text

-- It is one of these.
abbrev pub IsInputOf : List Input → Input → Type 0
IsInputOf [] input = ⊥
IsInputOf (first ∷ rest) input = (input ≡ first) ⊎ IsInputOf rest input

-- The bytes of one of these files.
pub record Read (inputs : List Input) : Type 0 where
  pub file : Input
  pub text : Text
  pub is_input : IsInputOf inputs file

-- One of these files for each of those.
abbrev pub ReadEach : List Input → List Input → Type 0
ReadEach inputs [] = Unit {0}
ReadEach inputs (input ∷ rest) = Read inputs × ReadEach inputs rest

-- All of them, in their order.
abbrev pub ReadAll : List Input → Type 0
ReadAll inputs = ReadEach inputs inputs

-- ---- its journals

-- What is done with the file beside a journal.
pub data Beside : Type 0 where
  only_reads : Beside
  changes : Beside

-- A journal of some kind and name: it is there and is opened, with the file beside it, or it is
-- made.
pub data Journal (k : Kinds) : Type 0 where
  opens : k.Kind → Beside → Text → Journal k
  makes : k.Kind → Text → Journal k

-- What is found in those that are opened.
abbrev pub Finds : {k : Kinds} → List (Journal k) → Type 0
Finds [] = Unit {0}
Finds {k} (opens kind beside name ∷ rest) = Found (k.State kind) × Finds rest
Finds (makes kind name ∷ rest) = Finds rest

-- What is done with each of them: one that is opened has a record more or none, and one that is
-- made has its first record.
abbrev pub Deeds : {k : Kinds} → List (Journal k) → Type 0
Deeds [] = Unit {0}
Deeds (opens kind beside name ∷ rest) = Option Text × Deeds rest
Deeds (makes kind name ∷ rest) = Text × Deeds rest

-- ---- what it does

-- What is answered once all files were read: a text with its status, any text of some form, or any
-- two strings of some lists with one hash; or that the state of a journal doesn't allow the work;
-- or that a limit doesn't.
pub data Judged : Type 0 where
  prints : Said → Text → Judged
  prints_formed : Said → (Text → Bool) → Judged
  prints_pair : Said → HashFunction → (Text → Text → Text) → List Text → List Text → Judged
  forbids : Text → Judged
  exceeds : Text → Judged

-- The work: what is answered, and what is done with the journals.
pub record Deed {k : Kinds} (journals : List (Journal k)) : Type 0 where
  pub answer : Judged
  pub does : Deeds journals

-- What comes of the bytes of the files: one of them isn't in its form, for this reason; or this is
-- done where those states are found.
pub data Step {k : Kinds} (inputs : List Input) (journals : List (Journal k)) : Type 0 where
  misreads : Read inputs → Text → Step inputs journals
  works : (Finds journals → Deed journals) → Step inputs journals

-- A file is read by a grammar, and then comes the rest. One that isn't in it is refused with the
-- name of the fault.
abbrev pub in_form : {k : Kinds} {F E : Type 0} {inputs : List Input} {journals : List (Journal k)}
    → Read inputs → (E → Text) → Result F E → (F → Step inputs journals) → Step inputs journals
in_form read fault_text (Ok form) next = next form
in_form read fault_text (Err why) next = misreads read (fault_text why)

-- A command without a journal prints this.
abbrev pub only_prints : {k : Kinds} {inputs : List Input} → Judged → Step {k = k} inputs []
only_prints judged = works (λ none. record { answer = judged; does = tt })

-- The command.
pub record Plan (k : Kinds) : Type 0 where
  pub inputs : List Input
  pub journals : List (Journal k)
  pub steps : ReadAll inputs → Step inputs journals
