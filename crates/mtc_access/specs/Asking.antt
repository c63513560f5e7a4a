-- Which commands only read their journals, and the files beside them.
use Rattle.std.specs.Prelude.{◌≡◌, Bool, true, false, None, Result, Ok, Err}
use Rattle.byte_formats.specs.Types.{HashFunction}
use Rattle.mtc_words.specs.Commands.{CommandValue, cert, certs, checkpoint, consist, entries}
use Rattle.mtc_words.specs.Commands.{entries_from, export, landmarks, light_cert, light_certs}
use Rattle.mtc_words.specs.Commands.{mirror_entries, subtree}
use Rattle.mtc_words.specs.declared.error.WordError.{WordError}
use Rattle.mtc_command.specs.Steps.{Files}
use Rattle.command_plans.specs.Names.{beside_names, first_made, only_read_names}
use Rattle.mtc_plans.specs.Commands.{plan_of, planned_outcome}
use Rattle.mtc_plans.specs.Streams.{AllAddNone}

-- It opens journals, and asks them.
abbrev pub asks_only : CommandValue → Bool
asks_only (checkpoint journal) = true
asks_only (entries journal size) = true
asks_only (entries_from journal first size) = true
asks_only (consist journal old new) = true
asks_only (subtree journal start end size) = true
asks_only (export journal) = true
asks_only (landmarks journal) = true
asks_only (light_cert journal index) = true
asks_only (light_certs journal first last) = true
asks_only (cert journal index start end file) = true
asks_only (certs journal first last start end file) = true
asks_only (mirror_entries journal size) = true
asks_only other = false

-- The arguments say such a command.
abbrev pub words_ask_only : Result CommandValue WordError → Bool
words_ask_only (Ok command) = asks_only command
words_ask_only (Err why) = false

-- By its plan a command adds no record to a journal, makes none, and only reads the files beside
-- those that it opens.
pub record KeepsJournals (h : HashFunction) (command : CommandValue) : Type 0 where
  pub adds : (files : Files) → AllAddNone (planned_outcome h command files).journals
  pub makes : first_made (plan_of h command).journals ≡ None
  pub besides : only_read_names (plan_of h command).journals
      ≡ beside_names (plan_of h command).journals

abbrev pub AskingKeepsJournals : Type 0
AskingKeepsJournals = (h : HashFunction) (command : CommandValue) → asks_only command ≡ true
    → KeepsJournals h command
