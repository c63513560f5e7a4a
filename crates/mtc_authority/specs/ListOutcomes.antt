-- The outcomes of `issue-list J REQUESTS`, `certs` and `light-certs`.
use Rattle.std.specs.Prelude.{ℕ, ◌-◌, false, List, flat_map}
use Rattle.std.specs.Prelude.{length, Option, Some, None}
use Rattle.std.specs.List.{range_with_len}
use Rattle.byte_formats.specs.Types.{HashFunction, Text}
use Rattle.journal_core.specs.Format.{end_offset}
use Rattle.journal_core.specs.declared.error.AppendError.TheVariants as append_error
use Rattle.issuance_log.specs.Folds.{LogState, LogView, view_in}
use Rattle.issuance_log.specs.Openings.{FoundLog}
use Rattle.issuance_log.specs.Reasons.{log_fault_text}
use Rattle.issuance_log.specs.Refusals.{batch_refusal}
use Rattle.issuance_log.specs.declared.error.LogError.{LogError}
use Rattle.issuance_log.specs.declared.error.LogError.TheVariants as log_error
use Rattle.authority_core.specs.Certificates.{covering_in}
use Rattle.authority_core.specs.Issues.{issued_batch, issued_items}
use Rattle.authority_core.specs.Reasons.{request_list_fault_text, several_fault_text}
use Rattle.authority_core.specs.Requests.{RequestParts}
use Rattle.authority_core.specs.Several.{certs_refusal, light_certs_refusal, pem_of}
use Rattle.authority_core.specs.declared.issuing.error.IssueError.{IssueError}
use Rattle.authority_core.specs.declared.issuing.error.IssueError.TheVariants.{Log}
use Rattle.authority_core.specs.declared.requests.error.RequestListError.{RequestListError}
use Rattle.authority_core.specs.declared.requests.error.RequestListError.TheVariants as request_list
use Rattle.authority_core.specs.declared.writing.error.SeveralError.{SeveralError}
use Rattle.authority_core.specs.declared.writing.error.SeveralError.TheVariants as several
use Rattle.authority_core.specs.declared.writing.error.WriteError.TheVariants as write_error
use Rattle.mtc_command.specs.declared.answer.Said.TheVariants.{Done}
use Rattle.mtc_command.specs.declared.answer.Stopped.TheVariants.{Beyond, BadForm}
use Rattle.mtc_command.specs.Answers.{Reply, Ending, replied, room_failed, no_memory, said}
use Rattle.mtc_command.specs.Answers.{refused, tiles_name}
use Rattle.mtc_command.specs.Steps.{Outcome, stops_on, appends}
use Rattle.mtc_authority.specs.CertOutcome.{certificate_in, light_text}
use Rattle.mtc_authority.specs.IssueOutcome.{issued_text}
use Rattle.mtc_authority.specs.LogOutcomes.{not_allowed}

-- ---- `issue-list`

-- What comes of a file that isn't a list of requests, unless memory was refused.
abbrev pub request_list_ending : Text → RequestListError → Ending
request_list_ending file request_list.Memory = no_memory
request_list_ending file why = replied (refused BadForm (Some file) (request_list_fault_text why))

-- These are the refusals of several entries by a log that was opened just now.
abbrev pub MayRefuseEntries : IssueError → Type 0
MayRefuseEntries (Log log_error.Full) = Unit {0}
MayRefuseEntries (Log (log_error.TooMany count)) = Unit {0}
MayRefuseEntries (Log log_error.TooLarge) = Unit {0}
MayRefuseEntries (Log log_error.Memory) = Unit {0}
MayRefuseEntries (Log (log_error.Append append_error.Failed)) = Unit {0}
MayRefuseEntries (Log (log_error.Append append_error.Full)) = Unit {0}
MayRefuseEntries why = ⊥

-- A line for each of so many entries, from this index on.
abbrev pub issued_lines : ℕ → ℕ → Text
issued_lines first count = flat_map issued_text (range_with_len first count)

-- The entries of the requests are added with their keys, where the log shows this and has these
-- records, unless the log refuses them.
abbrev pub list_issued_by : HashFunction → List RequestParts → LogView → List Text
    → Option LogError → Outcome
list_issued_by h rs v list None =
    appends list (issued_batch h v rs) (issued_lines v.size (length rs))
list_issued_by h rs v list (Some why) = stops_on list Beyond (log_fault_text why)

-- What `issue-list` makes of a log that was found.
abbrev pub issue_list_says : HashFunction → List RequestParts → FoundLog → Outcome
issue_list_says h rs found = list_issued_by h rs (view_in found.state) found.records
    (batch_refusal (view_in found.state) false (end_offset found.records)
    (issued_items h (view_in found.state) rs))

-- ---- `certs` and `light-certs`

-- Why no certificates are written: as that of one is refused, and its index.
abbrev pub several_refused : SeveralError → Reply
several_refused (several.OfEntry write_error.TooManySignatures index) =
    refused Beyond None (several_fault_text (several.OfEntry write_error.TooManySignatures index))
several_refused why = not_allowed (several_fault_text why)

-- What comes of it in a command on this journal.
abbrev pub several_ending : Text → SeveralError → Ending
several_ending journal several.JournalFailed = room_failed journal
several_ending journal several.TilesFailed = room_failed (tiles_name journal)
several_ending journal several.Memory = no_memory
several_ending journal why = replied (several_refused why)

abbrev pub several_replies : Option SeveralError → Text → Reply
several_replies None text = said Done text
several_replies (Some why) text = several_refused why

-- One after the other what `cert` writes of each index, as PEM.
abbrev pub certs_text : HashFunction → ℕ → ℕ → ℕ → ℕ → Text → LogState → Text
certs_text h first last start end signatures s =
    flat_map (λ index. pem_of (certificate_in h index start end signatures s))
    (range_with_len first (last - first))

abbrev pub certs_reply : HashFunction → ℕ → ℕ → ℕ → ℕ → Text → LogState → Reply
certs_reply h first last start end signatures s =
    several_replies (certs_refusal (view_in s) first last start end signatures)
    (certs_text h first last start end signatures s)

-- And what `light-cert` writes of each.
abbrev pub light_certs_text : HashFunction → ℕ → ℕ → LogState → Text
light_certs_text h first last s =
    flat_map (λ index. pem_of (light_text h index s (covering_in (view_in s) index)))
    (range_with_len first (last - first))

abbrev pub light_certs_reply : HashFunction → ℕ → ℕ → LogState → Reply
light_certs_reply h first last s = several_replies (light_certs_refusal (view_in s) first last)
    (light_certs_text h first last s)
