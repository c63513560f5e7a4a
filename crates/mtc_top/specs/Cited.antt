-- The outcome of what the arguments say, as the contracts of the commands cite it.
use Rattle.std.specs.Prelude.{Result, Ok, Err}
use Rattle.byte_formats.specs.Types.{HashFunction}
use Rattle.mtc_words.specs.declared.error.WordError.{WordError}
use Rattle.mtc_words.specs.Commands.{CommandValue}
use Rattle.mtc_command.specs.Steps.{Files, Outcome, stops}
use Rattle.mtc_command.specs.declared.answer.Stopped.TheVariants.{BadWords}
use Rattle.mtc_plans.specs.Cited.{command_outcome}
use Rattle.mtc_words.specs.Reasons.{word_fault_text}

-- That of the command; arguments that are no command are refused.
abbrev pub spoken_outcome : HashFunction → Result CommandValue WordError → Files → Outcome
spoken_outcome h (Ok command) = command_outcome h command
spoken_outcome h (Err why) = λ files. stops BadWords (word_fault_text why)
