-- What a command prints over a log that was found, and which record it adds.
use Rattle.std.specs.Prelude.{ℕ, ◌-◌, ◌==◌, false, nat_le, nat_lt, not, length, codes}
use Rattle.std.specs.Prelude.{None, ◌++◌, if◌then◌else◌}
use Rattle.std.specs.Fmt.{decimal}
use Rattle.byte_formats.specs.Types.{HashFunction}
use Rattle.journal_core.specs.Format.{end_offset}
use Rattle.authority_core.specs.Certificates.{cert_refusal, covering_in, light_refusal}
use Rattle.authority_core.specs.Issues.{issued_batch, issued_entry, issued_items, issued_record}
use Rattle.authority_core.specs.Reasons.{several_fault_text}
use Rattle.authority_core.specs.Several.{certs_refusal, light_certs_refusal}
use Rattle.authority_core.specs.declared.writing.error.SeveralError.{SeveralError}
use Rattle.authority_core.specs.declared.writing.error.SeveralError.TheVariants as several
use Rattle.issuance_log.specs.Refusals.{batch_refusal}
use Rattle.mtc_authority.specs.ListOutcomes.{certs_text, issued_lines, light_certs_text}
use Rattle.authority_core.specs.declared.writing.error.WriteError.{WriteError}
use Rattle.authority_core.specs.declared.writing.error.WriteError.TheVariants as write_error
use Rattle.cosigner_core.specs.Requests.{advance_text, subtree_text}
use Rattle.entry_list.specs.Items.{file_part, file_text}
use Rattle.issuance_log.specs.Folds.{LogState, view_in}
use Rattle.issuance_log.specs.Openings.{FoundLog}
use Rattle.issuance_log.specs.Records.{landmark_record, switch_record, tiles_record}
use Rattle.issuance_log.specs.Refusals.{add_refusal, full_size, mark_refusal, switch_refusal}
use Rattle.issuance_log.specs.Refusals.{tile_refusal}
use Rattle.issuance_log.specs.declared.error.LogError.{LogError}
use Rattle.issuance_log.specs.declared.error.LogError.TheVariants as log_error
use Rattle.landmarks.specs.Texts.{list_text}
use Rattle.tree_core.specs.Subtree.{is_subtree}
use Rattle.tree_core.specs.Tree.{tree_hash}
use Rattle.mtc_command.specs.declared.answer.Said.TheVariants.{Done}
use Rattle.mtc_authority.specs.CertOutcome.{certificate_in, light_text}
use Rattle.issuance_log.specs.Reasons.{log_fault_text}
use Rattle.mtc_authority.specs.IssueOutcome.{issued_text}
use Rattle.mtc_authority.specs.LandmarkOutcomes.{log_landmarks, next_line}
use Rattle.mtc_authority.specs.LogOutcomes.{items_of}
use Rattle.mtc_lines.specs.CheckpointLines.{checkpoint_lines}
use Rattle.mtc_authority.specs.RequestOutcomes.{advance_by_log, subtree_of}
use Rattle.mtc_authority.specs.SwitchOutcome.{switched_line}
use Rattle.mtc_authority.specs.TileOutcome.{tiled_line}
use Rattle.mtc_authority.specs.declared.work.Work.{Work}
use Rattle.mtc_authority.specs.declared.work.Work.TheVariants.{Cert, Checkpoint, Consist, Entries}
use Rattle.mtc_authority.specs.declared.work.Work.TheVariants.{EntriesFrom}
use Rattle.mtc_authority.specs.declared.work.Work.TheVariants.{Issue, Landmark, Landmarks}
use Rattle.mtc_authority.specs.declared.work.Work.TheVariants.{LightCert, Subtree, Switch, Tile}
use Rattle.mtc_authority.specs.declared.work.Work.TheVariants.{Certs, IssueList, LightCerts}
use Rattle.command_plans.specs.Plans.{Judged, exceeds, forbids, prints}
use Rattle.mtc_plans.specs.Steps.{StepReport, added_by, beyond_size, prints_unless}

-- ---- what only reads the log

-- So many of the first items, where the log has them.
abbrev pub entries_judged : ℕ → LogState → Judged
entries_judged size s =
    if nat_lt (length s.entries) size then beyond_size (length s.entries)
    else prints Done (file_text (items_of s) size)

-- The items from the first index up to a size, without it: there must be some, and the log must
-- have them.
abbrev pub entries_from_judged : ℕ → ℕ → LogState → Judged
entries_from_judged first size s =
    if nat_le size first then forbids (codes "NothingNew")
    else (if nat_lt (length s.entries) size then beyond_size (length s.entries)
    else prints Done (file_part (items_of s) first (size - first)))

-- The log must have more entries than the old ones, and as many as the new ones.
abbrev pub consist_judged : HashFunction → ℕ → ℕ → LogState → Judged
consist_judged h old new s =
    if nat_le new old then forbids (codes "NothingNew")
    else (if nat_lt (length s.entries) new then beyond_size (length s.entries)
    else prints Done (advance_text (advance_by_log h s old new)))

-- The interval must be a subtree, the log must have so many entries, and the subtree must lie among
-- them.
abbrev pub subtree_judged : HashFunction → ℕ → ℕ → ℕ → LogState → Judged
subtree_judged h start end size s =
    if not (is_subtree start end) then forbids (codes "BadSubtree")
    else (if nat_lt (length s.entries) size then beyond_size (length s.entries)
    else (if nat_lt size end then beyond_size size
    else prints Done (subtree_text (subtree_of h s start end size))))

-- Why no certificate is written.
abbrev pub write_judged : WriteError → Judged
write_judged write_error.NoSuchEntry = forbids (codes "NoSuchEntry")
write_judged write_error.NullEntry = forbids (codes "NullEntry")
write_judged write_error.BadSubtree = forbids (codes "BadSubtree")
write_judged write_error.Outside = forbids (codes "Outside")
write_judged (write_error.Beyond size) = beyond_size size
write_judged write_error.NotCovered = forbids (codes "NotCovered")
write_judged write_error.TooManySignatures = exceeds (codes "TooManySignatures")
write_judged write_error.JournalFailed = exceeds (codes "Failed")
write_judged write_error.TilesFailed = exceeds (codes "Failed")
write_judged write_error.Memory = exceeds (codes "Memory")

-- Why no certificates of several entries are written.
abbrev pub several_judged : SeveralError → Judged
several_judged (several.OfEntry write_error.TooManySignatures index) =
    exceeds (codes "TooManySignatures " ++ decimal index)
several_judged why = forbids (several_fault_text why)

-- The tiles of this size are written again, if the log has recorded some.
abbrev pub rebuilt_judged : ℕ → Judged
rebuilt_judged size =
    if size == 0 then forbids (codes "NothingNew") else prints Done (tiled_line size)

-- ---- what adds a record

-- Why a log takes no entry.
abbrev pub entry_judged : LogError → Judged
entry_judged why = exceeds (log_fault_text why)

-- Why a log takes no landmark, and stores no tiles.
abbrev pub log_judged : LogError → Judged
log_judged log_error.NothingNew = forbids (codes "NothingNew")
log_judged why = exceeds (log_fault_text why)

-- The tiles that the entries fill are stored.
-- Why a log isn't switched.
abbrev pub switch_judged : LogError → Judged
switch_judged (log_error.AlreadySwitched index) =
    forbids (codes "AlreadySwitched " ++ decimal index)
switch_judged why = exceeds (log_fault_text why)

-- ---- each work

abbrev pub work_reported : HashFunction → Work → FoundLog → StepReport
work_reported h Checkpoint found = (
  prints Done (checkpoint_lines (length found.state.entries) (tree_hash h found.state.entries)),
  None,
)
work_reported h (Entries size) found = (entries_judged size found.state, None)
work_reported h (EntriesFrom first size) found = (entries_from_judged first size found.state, None)
work_reported h (Issue request) found = added_by entry_judged
    (issued_record h (view_in found.state) request) (issued_text (view_in found.state).size)
    (add_refusal (view_in found.state) false (end_offset found.records)
    (issued_entry h (view_in found.state) request) request.key)
work_reported h (Consist old new) found = (consist_judged h old new found.state, None)
work_reported h (Subtree start end size) found = (subtree_judged h start end size found.state, None)
work_reported h Landmark found = added_by log_judged
    (landmark_record (view_in found.state).size) (next_line (view_in found.state))
    (mark_refusal (view_in found.state) false (end_offset found.records))
work_reported h Landmarks found =
    (prints Done (list_text (log_landmarks (view_in found.state))), None)
work_reported h (LightCert index) found = (
  prints_unless write_judged (light_refusal (view_in found.state) index)
      (light_text h index found.state (covering_in (view_in found.state) index)),
  None,
)
work_reported h (Cert index start end signatures) found = (
  prints_unless write_judged (cert_refusal (view_in found.state) index start end signatures)
      (certificate_in h index start end signatures found.state),
  None,
)
work_reported h (IssueList requests) found = added_by entry_judged
    (issued_batch h (view_in found.state) requests)
    (issued_lines (view_in found.state).size (length requests))
    (batch_refusal (view_in found.state) false (end_offset found.records)
    (issued_items h (view_in found.state) requests))
work_reported h (LightCerts first last) found = (
  prints_unless several_judged (light_certs_refusal (view_in found.state) first last)
      (light_certs_text h first last found.state),
  None,
)
work_reported h (Certs first last start end signatures) found = (
  prints_unless several_judged
      (certs_refusal (view_in found.state) first last start end signatures)
      (certs_text h first last start end signatures found.state),
  None,
)
work_reported h Switch found = added_by switch_judged
    (switch_record (view_in found.state).size) (switched_line (view_in found.state).size)
    (switch_refusal (view_in found.state) false (end_offset found.records))
work_reported h Tile found = added_by log_judged
    (tiles_record (full_size (view_in found.state))) (tiled_line (full_size (view_in found.state)))
    (tile_refusal (view_in found.state) false (end_offset found.records))
