-- The plans of `help` and `version`, which are about the program itself.
use Rattle.std.specs.Prelude.{[]}
use Rattle.mtc_command.specs.declared.answer.Said.TheVariants.{Done}
use Rattle.command_plans.specs.Kinds.{Kinds}
use Rattle.command_plans.specs.Plans.{Plan, only_prints, prints}
use Rattle.mtc_help.specs.HelpOutcome.{help_text, profile_text}

-- No file is read, and the text of `help` is printed.
abbrev pub help_plan : {k : Kinds} → Plan k
help_plan = record {
  inputs = [];
  journals = [];
  steps = λ none. only_prints (prints Done help_text);
}

-- No file is read, and the text of `version` is printed.
abbrev pub version_plan : {k : Kinds} → Plan k
version_plan = record {
  inputs = [];
  journals = [];
  steps = λ none. only_prints (prints Done profile_text);
}
