-- What a command may do with its journals that writes its text while it reads them.
use Rattle.std.specs.Prelude.{◌≡◌, true, List, [], ◌∷◌, None}
use Rattle.byte_formats.specs.Types.{HashFunction}
use Rattle.mtc_words.specs.Commands.{CommandValue}
use Rattle.mtc_command.specs.Made.{Journaled, untouched, reads, appended, started}
use Rattle.mtc_command.specs.Steps.{Files}
use Rattle.command_plans.specs.Names.{first_made}
use Rattle.mtc_plans.specs.Commands.{plan_of, planned_outcome}
use Rattle.mtc_plans.specs.Words.{streams}

-- No record is added, and no journal is made.
abbrev pub AddsNone : Journaled → Type 0
AddsNone untouched = Unit {0}
AddsNone (reads list) = Unit {0}
AddsNone (appended list body) = ⊥
AddsNone (started body) = ⊥

abbrev pub AllAddNone : List Journaled → Type 0
AllAddNone [] = Unit {0}
AllAddNone (did ∷ dids) = AddsNone did × AllAddNone dids

-- So it is of each command that writes while it reads, whatever files there are.
abbrev pub StreamsAddNone : Type 0
StreamsAddNone = (h : HashFunction) (command : CommandValue) (files : Files)
    → streams command ≡ true → AllAddNone (planned_outcome h command files).journals

abbrev pub StreamsMakeNone : Type 0
StreamsMakeNone = (h : HashFunction) (command : CommandValue) → streams command ≡ true
    → first_made (plan_of h command).journals ≡ None
