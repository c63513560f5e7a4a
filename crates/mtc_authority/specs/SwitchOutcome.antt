-- The outcome of `switch J`.
use Rattle.std.specs.Prelude.{ℕ, ◌++◌, false, List, codes, Option, Some, None}
use Rattle.std.specs.Fmt.{decimal}
use Rattle.byte_formats.specs.Types.{Text}
use Rattle.journal_core.specs.Format.{end_offset}
use Rattle.journal_core.specs.declared.error.AppendError.TheVariants as append_error
use Rattle.issuance_log.specs.Folds.{LogView, view_in}
use Rattle.issuance_log.specs.Openings.{FoundLog}
use Rattle.issuance_log.specs.Records.{switch_record}
use Rattle.issuance_log.specs.Refusals.{switch_refusal}
use Rattle.issuance_log.specs.declared.error.LogError.{LogError}
use Rattle.issuance_log.specs.declared.error.LogError.TheVariants as log_error
use Rattle.mtc_command.specs.declared.answer.Stopped.TheVariants.{Beyond}
use Rattle.mtc_command.specs.Answers.{Reply, Ending, replied, room_failed, no_memory, refused}
use Rattle.mtc_command.specs.Steps.{Outcome, answers_on, appends}
use Rattle.issuance_log.specs.Reasons.{log_fault_text}
use Rattle.mtc_authority.specs.LogOutcomes.{not_allowed}

-- The line of a log that was switched at this index.
abbrev pub switched_line : ℕ → Text
switched_line index = codes "switched " ++ (decimal index ++ codes "\n")

-- Why a log isn't switched.
abbrev pub switch_refused : LogError → Reply
switch_refused (log_error.AlreadySwitched index) =
    not_allowed (codes "AlreadySwitched " ++ decimal index)
switch_refused why = refused Beyond None (log_fault_text why)

-- What comes of it in a command on this journal: it is refused, unless the device failed or memory
-- was refused.
abbrev pub switch_ending : Text → LogError → Ending
switch_ending journal (log_error.Append append_error.Failed) = room_failed journal
switch_ending journal log_error.Memory = no_memory
switch_ending journal why = replied (switch_refused why)

-- These are the refusals of a switch by a log that was opened just now.
abbrev pub MayRefuseSwitch : LogError → Type 0
MayRefuseSwitch (log_error.AlreadySwitched index) = Unit {0}
MayRefuseSwitch log_error.Memory = Unit {0}
MayRefuseSwitch (log_error.Append append_error.Failed) = Unit {0}
MayRefuseSwitch (log_error.Append append_error.Full) = Unit {0}
MayRefuseSwitch why = ⊥

-- The log is switched at its size, where it shows this and has these records, unless it refuses.
abbrev pub switched_by : LogView → List Text → Option LogError → Outcome
switched_by v list None = appends list (switch_record v.size) (switched_line v.size)
switched_by v list (Some why) = answers_on list (switch_refused why)

-- What `switch` makes of a log that was found.
abbrev pub switch_says : FoundLog → Outcome
switch_says found = switched_by (view_in found.state) found.records
    (switch_refusal (view_in found.state) false (end_offset found.records))
