-- What was read of the files of a command, and what was found in its journals.
use Rattle.std.specs.Prelude.{◌≡◌, ◌⊎◌, ◌≤◌, ◌<◌, List, [], ◌∷◌, length, Option, None, Some}
use Rattle.std.specs.Prelude.{Ok, Err}
use Rattle.byte_formats.specs.Types.{Text}
use Rattle.journal_core.specs.Folds.{Found, read_by}
use Rattle.mtc_command.specs.Steps.{Files, held_in}
use Rattle.command_plans.specs.Kinds.{Kinds}
use Rattle.command_plans.specs.Plans.{Input, IsInputOf, Read, ReadEach, Journal, opens, makes}
use Rattle.command_plans.specs.Plans.{Finds}

-- This is what an input holds, within its limit.
pub record IsReadWithin (files : Files) (input : Input) {inputs : List Input} (read : Read inputs)
    : Type 0 where
  pub is : read.file ≡ input
  pub there : files input.name ≡ Some read.text
  pub few : length read.text ≤ input.limit

abbrev pub AreRead : Files → (inputs rest : List Input) → ReadEach inputs rest → Type 0
AreRead files inputs [] read = Unit {0}
AreRead files inputs (input ∷ rest) read =
    IsReadWithin files input read.0 × AreRead files inputs rest read.1

-- A file of these has more bytes than its limit.
pub record IsTooLong (files : Files) (inputs : List Input) (file : Text) : Type 0 where
  pub input : Input
  pub is_input : IsInputOf inputs input
  pub named : file ≡ input.name
  pub bytes : Text
  pub there : files file ≡ Some bytes
  pub many : input.limit < length bytes

module _ (k : Kinds) (files : Files) where
  -- The file beside a journal, where there is one, lacks nothing of this party.
  abbrev pub LacksNothing : (kind : k.Kind) → k.State kind → Option Text → Type 0
  LacksNothing kind state None = Unit {0}
  LacksNothing kind state (Some file) = k.lacks kind state (held_in (files file)) ≡ None

  -- The file of this name is a journal of this kind, and this is what it is read as.
  pub record IsFound (kind : k.Kind) (name : Text) (found : Found (k.State kind)) : Type 0 where
    pub bytes : Text
    pub there : files name ≡ Some bytes
    pub is : read_by (k.fold kind) bytes ≡ Ok found
    pub whole : LacksNothing kind found.state (k.beside kind name)

  -- It is none, and this file is refused for this reason: itself, since its bytes are no party's of
  -- the kind, or the file beside it for what that lacks.
  pub record IsNoParty (kind : k.Kind) (name file reason : Text) : Type 0 where
    pub bytes : Text
    pub there : files name ≡ Some bytes
    pub why : k.Fault kind
    pub is : read_by (k.fold kind) bytes ≡ Err why
    pub named : file ≡ name
    pub says : reason ≡ k.fault_text kind why

  pub record IsLacking (kind : k.Kind) (name file reason : Text) : Type 0 where
    pub bytes : Text
    pub there : files name ≡ Some bytes
    pub found : Found (k.State kind)
    pub is : read_by (k.fold kind) bytes ≡ Ok found
    pub beside : k.beside kind name ≡ Some file
    pub lacks : k.lacks kind found.state (held_in (files file)) ≡ Some reason

  abbrev pub IsRefused : k.Kind → Text → Text → Text → Type 0
  IsRefused kind name file reason =
      IsNoParty kind name file reason ⊎ IsLacking kind name file reason

  -- This holds of a journal of these that is opened.
  abbrev pub AnyIsRefused : List (Journal k) → Text → Text → Type 0
  AnyIsRefused [] file reason = ⊥
  AnyIsRefused (opens kind beside name ∷ rest) file reason =
      IsRefused kind name file reason ⊎ AnyIsRefused rest file reason
  AnyIsRefused (makes kind name ∷ rest) file reason = AnyIsRefused rest file reason

  -- Each that is opened was found so, and each that is made had no file.
  abbrev pub AreFound : (journals : List (Journal k)) → Finds journals → Type 0
  AreFound [] founds = Unit {0}
  AreFound (opens kind beside name ∷ rest) founds =
      IsFound kind name founds.0 × AreFound rest founds.1
  AreFound (makes kind name ∷ rest) founds = (files name ≡ None) × AreFound rest founds
