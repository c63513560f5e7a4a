-- The outcome of `issue J REQUEST`.
use Rattle.std.specs.Prelude.{ℕ, false, ◌++◌, List, codes, Option, Some, None}
use Rattle.std.specs.Fmt.{decimal}
use Rattle.byte_formats.specs.Types.{HashFunction, Text}
use Rattle.authority_core.specs.Reasons.{request_fault_text}
use Rattle.issuance_log.specs.Reasons.{log_fault_text}
use Rattle.journal_core.specs.Format.{end_offset}
use Rattle.journal_core.specs.declared.error.AppendError.TheVariants as append_error
use Rattle.issuance_log.specs.Folds.{LogView, view_in}
use Rattle.issuance_log.specs.Openings.{FoundLog}
use Rattle.issuance_log.specs.Refusals.{add_refusal}
use Rattle.issuance_log.specs.declared.error.LogError.{LogError}
use Rattle.issuance_log.specs.declared.error.LogError.TheVariants as log_error
use Rattle.authority_core.specs.Issues.{issued_entry, issued_record}
use Rattle.authority_core.specs.Requests.{RequestParts}
use Rattle.authority_core.specs.declared.issuing.error.IssueError.{IssueError}
use Rattle.authority_core.specs.declared.issuing.error.IssueError.TheVariants.{Log}
use Rattle.authority_core.specs.declared.requests.error.RequestError.{RequestError}
use Rattle.authority_core.specs.declared.requests.error.RequestError.TheVariants.{Memory}
use Rattle.mtc_command.specs.declared.answer.Stopped.TheVariants.{Beyond}
use Rattle.mtc_command.specs.declared.answer.Stopped.TheVariants.{BadForm}
use Rattle.mtc_command.specs.Answers.{Ending, replied, room_failed, no_memory, refused}
use Rattle.mtc_command.specs.Steps.{Outcome, stops_on, appends}

-- What comes of it: the line says that the file isn't a request, unless memory was refused.
abbrev pub request_ending : Text → RequestError → Ending
request_ending file Memory = no_memory
request_ending file why = replied (refused BadForm (Some file) (request_fault_text why))

-- What comes of it in a command on this journal: the entry is refused, unless the device failed or
-- memory was refused.
abbrev pub log_ending : Text → LogError → Ending
log_ending journal (log_error.Append append_error.Failed) = room_failed journal
log_ending journal log_error.Memory = no_memory
log_ending journal why = replied (refused Beyond None (log_fault_text why))

abbrev pub issue_ending : Text → IssueError → Ending
issue_ending journal (Log why) = log_ending journal why

-- These are the refusals of an entry by a log that was opened just now.
abbrev pub MayRefuseEntry : IssueError → Type 0
MayRefuseEntry (Log log_error.Full) = Unit {0}
MayRefuseEntry (Log log_error.TooLarge) = Unit {0}
MayRefuseEntry (Log log_error.Memory) = Unit {0}
MayRefuseEntry (Log (log_error.Append append_error.Failed)) = Unit {0}
MayRefuseEntry (Log (log_error.Append append_error.Full)) = Unit {0}
MayRefuseEntry why = ⊥

-- The line of an entry that was added at this index.
abbrev pub issued_text : ℕ → Text
issued_text index = codes "issued " ++ (decimal index ++ codes "\n")

-- The entry of a request is added with its key, where the log shows this and has these records,
-- unless the log refuses it.
abbrev pub issued_by : HashFunction → RequestParts → LogView → List Text → Option LogError → Outcome
issued_by h r v list None = appends list (issued_record h v r) (issued_text v.size)
issued_by h r v list (Some why) = stops_on list Beyond (log_fault_text why)

abbrev pub issued : HashFunction → RequestParts → FoundLog → Option LogError → Outcome
issued h r found why = issued_by h r (view_in found.state) found.records why

-- What `issue` makes of a log that was found.
abbrev pub issue_says : HashFunction → RequestParts → FoundLog → Outcome
issue_says h r found = issued h r found (add_refusal (view_in found.state) false
    (end_offset found.records) (issued_entry h (view_in found.state) r) r.key)
