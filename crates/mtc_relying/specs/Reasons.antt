-- The reasons of faults and of judgements against: the name of each, and the number or the second
-- name after it.
use Rattle.std.specs.Prelude.{◌++◌, codes}
use Rattle.byte_formats.specs.Types.{Text}
use Rattle.mtc_command.specs.declared.answer.Said.TheVariants.{Against}
use Rattle.mtc_command.specs.Steps.{Outcome, says}

-- A judgement against, for this reason.
abbrev pub judged_against : Text → Outcome
judged_against reason = says Against (codes "refused " ++ (reason ++ codes "\n"))
