-- What is to be known of each command is computed from its plan, which stands in mtc_plans.
use Rattle.std.specs.Prelude.{Bool, false, List, [], Option, None, Result, Ok, Err}
use Rattle.byte_formats.specs.Types.{HashFunction, Text}
use Rattle.mtc_words.specs.declared.error.WordError.{WordError}
use Rattle.mtc_words.specs.Commands.{CommandValue}
use Rattle.mtc_command.specs.Steps.{Files, Outcome, stops}
use Rattle.mtc_command.specs.declared.answer.Stopped.TheVariants.{BadWords}
use Rattle.command_plans.specs.Names.{beside_names, first_made, input_names, journal_names}
use Rattle.command_plans.specs.Names.{only_read_names}
use Rattle.command_plans.specs.Rules.{AreOfFirst}
use Rattle.mtc_plans.specs.Commands.{plan_of, planned_outcome}
use Rattle.mtc_plans.specs.PartyKinds.{GoesWithFirst, party_kinds}
use Rattle.mtc_plans.specs.Words.{streams, tiles_made_by}
use Rattle.mtc_words.specs.Reasons.{word_fault_text}

-- What is to be known of a command: the journals that it works on, the files that it may make or
-- change beside them, those of these that it only reads, the journal that it makes, the log whose
-- tiles it makes whole, the files that it reads, which lists of records are a party's of the kind
-- that it works on first, and which bytes of the file beside a journal of that kind go with which
-- of them, whether it may write its text while it reads its journals, and what it answers over the
-- files of the file system. Its arguments name its journals first, and then the files that it
-- reads.
pub record Facts : Type 1 where
  pub journals : List Text
  pub besides : List Text
  pub only_reads : List Text
  pub makes : Option Text
  pub whole : Option Text
  pub inputs : List Text
  pub Valid : List Text → Type 0
  pub goes : List Text → Text → Type 0
  pub streams : Bool
  pub outcome : Files → Outcome

-- What is to be known of each command, under this hash function.
abbrev pub facts_of : HashFunction → CommandValue → Facts
facts_of h command = record {
  journals = journal_names (plan_of h command).journals;
  besides = beside_names (plan_of h command).journals;
  only_reads = only_read_names (plan_of h command).journals;
  makes = first_made (plan_of h command).journals;
  whole = tiles_made_by command;
  inputs = input_names (plan_of h command).inputs;
  Valid = AreOfFirst (party_kinds h) (plan_of h command).journals;
  goes = GoesWithFirst h (plan_of h command).journals;
  streams = streams command;
  outcome = planned_outcome h command;
}

-- What is to be known where the arguments say this. Those that are no command name no file, and are
-- answered so.
abbrev pub facts : HashFunction → Result CommandValue WordError → Facts
facts h (Ok command) = facts_of h command
facts h (Err why) = record {
  journals = [];
  besides = [];
  only_reads = [];
  makes = None;
  whole = None;
  inputs = [];
  Valid = λ list. ⊥;
  goes = λ list bytes. Unit {0};
  streams = false;
  outcome = λ files. stops BadWords (word_fault_text why);
}
