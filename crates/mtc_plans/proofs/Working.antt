-- What a command has to reply over a log that was found is what its plan prints.
use Rattle.std.proofs.Common.{◌≡◌, ◌==◌, ℕ, false, nat_le, nat_lt, not, List, length, Option, None}
use Rattle.std.proofs.Common.{Some, refl}
use Rattle.byte_formats.specs.Types.{HashFunction, Text}
use Rattle.journal_core.specs.Format.{end_offset}
use Rattle.authority_core.specs.Certificates.{cert_refusal, covering_in, light_refusal}
use Rattle.authority_core.specs.Issues.{issued_batch, issued_entry, issued_items, issued_record}
use Rattle.authority_core.specs.Requests.{RequestParts}
use Rattle.authority_core.specs.Several.{certs_refusal, light_certs_refusal}
use Rattle.authority_core.specs.declared.writing.error.SeveralError.{SeveralError}
use Rattle.authority_core.specs.declared.writing.error.SeveralError.TheVariants as several
use Rattle.authority_core.specs.declared.writing.error.WriteError.{WriteError}
use Rattle.authority_core.specs.declared.writing.error.WriteError.TheVariants as write_error
use Rattle.issuance_log.specs.Folds.{LogState, view_in}
use Rattle.issuance_log.specs.Openings.{FoundLog}
use Rattle.issuance_log.specs.Records.{landmark_record, switch_record, tiles_record}
use Rattle.issuance_log.specs.Refusals.{add_refusal, batch_refusal, mark_refusal, full_size}
use Rattle.issuance_log.specs.Refusals.{switch_refusal, tile_refusal}
use Rattle.issuance_log.specs.declared.error.LogError.{LogError}
use Rattle.issuance_log.specs.declared.error.LogError.TheVariants as log_error
use Rattle.tree_core.specs.Subtree.{is_subtree}
use Rattle.mtc_command.specs.Wanted.{exactly}
use Rattle.mtc_authority.specs.CertOutcome.{cert_refused, cert_replies, certificate_in}
use Rattle.mtc_authority.specs.CertOutcome.{light_text}
use Rattle.mtc_authority.specs.IssueOutcome.{issued, issued_text}
use Rattle.mtc_authority.specs.LandmarkOutcomes.{mark_refused, marked, next_line}
use Rattle.mtc_authority.specs.ListOutcomes.{certs_text, issued_lines, light_certs_text}
use Rattle.mtc_authority.specs.ListOutcomes.{list_issued_by}
use Rattle.mtc_authority.specs.ListOutcomes.{several_refused, several_replies}
use Rattle.mtc_authority.specs.LogOutcomes.{entries_from_reply, entries_reply}
use Rattle.mtc_authority.specs.RequestOutcomes.{consist_reply, subtree_reply}
use Rattle.mtc_authority.specs.SwitchOutcome.{switch_refused, switched_by, switched_line}
use Rattle.mtc_authority.specs.TileOutcome.{rebuilt_reply, rebuilt_says, tiled_by, tiled_line}
use Rattle.mtc_authority.specs.TileOutcome.{tiles_refused}
use Rattle.mtc_authority.specs.Works.{log_says}
use Rattle.mtc_authority.specs.declared.work.Work.{Work}
use Rattle.mtc_authority.specs.declared.work.Work.TheVariants.{Cert, Checkpoint, Consist, Entries}
use Rattle.mtc_authority.specs.declared.work.Work.TheVariants.{EntriesFrom}
use Rattle.mtc_authority.specs.declared.work.Work.TheVariants.{Issue, Landmark, Landmarks}
use Rattle.mtc_authority.specs.declared.work.Work.TheVariants.{LightCert, Subtree, Switch, Tile}
use Rattle.mtc_authority.specs.declared.work.Work.TheVariants.{Certs, IssueList, LightCerts}
use Rattle.command_plans.specs.Outcomes.{wanted_of}
use Rattle.mtc_plans.specs.LogWork.{rebuilt_judged, consist_judged, entries_from_judged}
use Rattle.mtc_plans.specs.LogWork.{entries_judged, entry_judged, log_judged, several_judged}
use Rattle.mtc_plans.specs.LogWork.{subtree_judged, switch_judged, work_reported, write_judged}
use Rattle.mtc_plans.specs.Steps.{added_by, prints_unless}
use Rattle.mtc_plans.proofs.Texts.{either_same, on_list, reported_on}

write_same : (why : WriteError) → exactly (cert_refused why) ≡ wanted_of (write_judged why)
write_same write_error.NoSuchEntry = refl
write_same write_error.NullEntry = refl
write_same write_error.BadSubtree = refl
write_same write_error.Outside = refl
write_same (write_error.Beyond size) = refl
write_same write_error.NotCovered = refl
write_same write_error.TooManySignatures = refl
write_same write_error.JournalFailed = refl
write_same write_error.TilesFailed = refl
write_same write_error.Memory = refl

cert_same : (why : Option WriteError) (text : List ℕ)
    → exactly (cert_replies why text) ≡ wanted_of (prints_unless write_judged why text)
cert_same None text = refl
cert_same (Some why) text = write_same why

mark_same : (why : LogError) → exactly (mark_refused why) ≡ wanted_of (log_judged why)
mark_same log_error.NothingNew = refl
mark_same why = refl

tiles_same : (why : LogError) → exactly (tiles_refused why) ≡ wanted_of (log_judged why)
tiles_same log_error.NothingNew = refl
tiles_same why = refl

switch_same : (why : LogError) → exactly (switch_refused why) ≡ wanted_of (switch_judged why)
switch_same (log_error.AlreadySwitched index) = refl
switch_same why = refl

pub rebuilt_same : (found : FoundLog) → rebuilt_says found
    ≡ reported_on found.records (rebuilt_judged found.state.tiled, None)
rebuilt_same found = on_list found.records (rebuilt_reply found.state.tiled)
    (rebuilt_judged found.state.tiled)
    (either_same (found.state.tiled == 0) _ _ _ _ refl refl)

-- The text of one that has too many signatures is the same by computation; if it isn't, codes and
-- decimal are joined by append_assoc.
several_same : (why : SeveralError) → exactly (several_refused why) ≡ wanted_of (several_judged why)
several_same (several.OfEntry write_error.TooManySignatures index) = refl
several_same why = refl

certs_same : (why : Option SeveralError) (text : Text)
    → exactly (several_replies why text) ≡ wanted_of (prints_unless several_judged why text)
certs_same None text = refl
certs_same (Some why) text = several_same why

module _ (h : HashFunction) where
  entries_same : (size : ℕ) (s : LogState)
      → exactly (entries_reply size s) ≡ wanted_of (entries_judged size s)
  entries_same size s = either_same (nat_lt (length s.entries) size) _ _ _ _ refl refl

  entries_from_same : (first size : ℕ) (s : LogState)
      → exactly (entries_from_reply first size s) ≡ wanted_of (entries_from_judged first size s)
  entries_from_same first size s = either_same (nat_le size first) _ _ _ _ refl
      (either_same (nat_lt (length s.entries) size) _ _ _ _ refl refl)

  consist_same : (old new : ℕ) (s : LogState)
      → exactly (consist_reply h old new s) ≡ wanted_of (consist_judged h old new s)
  consist_same old new s = either_same (nat_le new old) _ _ _ _ refl
      (either_same (nat_lt (length s.entries) new) _ _ _ _ refl refl)

  subtree_same : (start end size : ℕ) (s : LogState)
      → exactly (subtree_reply h start end size s) ≡ wanted_of (subtree_judged h start end size s)
  subtree_same start end size s = either_same (not (is_subtree start end)) _ _ _ _ refl
      (either_same (nat_lt (length s.entries) size) _ _ _ _ refl
      (either_same (nat_lt size end) _ _ _ _ refl refl))

  issued_same : (r : RequestParts) (found : FoundLog) (why : Option LogError)
      → issued h r found why
      ≡ reported_on found.records (added_by entry_judged
      (issued_record h (view_in found.state) r) (issued_text (view_in found.state).size) why)
  issued_same r found None = refl
  issued_same r found (Some why) = refl

  list_issued_same : (rs : List RequestParts) (found : FoundLog) (why : Option LogError)
      → list_issued_by h rs (view_in found.state) found.records why
      ≡ reported_on found.records (added_by entry_judged
      (issued_batch h (view_in found.state) rs)
      (issued_lines (view_in found.state).size (length rs)) why)
  list_issued_same rs found None = refl
  list_issued_same rs found (Some why) = refl

  marked_same : (found : FoundLog) (why : Option LogError)
      → marked found why ≡ reported_on found.records (added_by log_judged
      (landmark_record (view_in found.state).size) (next_line (view_in found.state)) why)
  marked_same found None = refl
  marked_same found (Some why) = on_list found.records (mark_refused why) (log_judged why)
      (mark_same why)

  tiled_same : (found : FoundLog) (why : Option LogError)
      → tiled_by (view_in found.state) found.records why
      ≡ reported_on found.records (added_by log_judged
      (tiles_record (full_size (view_in found.state)))
      (tiled_line (full_size (view_in found.state))) why)
  tiled_same found None = refl
  tiled_same found (Some why) = on_list found.records (tiles_refused why) (log_judged why)
      (tiles_same why)

  switched_same : (found : FoundLog) (why : Option LogError)
      → switched_by (view_in found.state) found.records why
      ≡ reported_on found.records (added_by switch_judged
      (switch_record (view_in found.state).size) (switched_line (view_in found.state).size) why)
  switched_same found None = refl
  switched_same found (Some why) = on_list found.records (switch_refused why) (switch_judged why)
      (switch_same why)

  pub work_same : (work : Work) (found : FoundLog)
      → log_says h work found ≡ reported_on found.records (work_reported h work found)
  unfolding log_says
  work_same Checkpoint found = refl
  work_same (Entries size) found = on_list found.records (entries_reply size found.state)
      (entries_judged size found.state) (entries_same size found.state)
  work_same (EntriesFrom first size) found =
      on_list found.records (entries_from_reply first size found.state)
      (entries_from_judged first size found.state) (entries_from_same first size found.state)
  work_same (Issue request) found = issued_same request found
      (add_refusal (view_in found.state) false (end_offset found.records)
      (issued_entry h (view_in found.state) request) request.key)
  work_same (Consist old new) found = on_list found.records (consist_reply h old new found.state)
      (consist_judged h old new found.state) (consist_same old new found.state)
  work_same (Subtree start end size) found =
      on_list found.records (subtree_reply h start end size found.state)
      (subtree_judged h start end size found.state) (subtree_same start end size found.state)
  work_same Landmark found =
      marked_same found (mark_refusal (view_in found.state) false (end_offset found.records))
  work_same Landmarks found = refl
  work_same (LightCert index) found =
      let why = light_refusal (view_in found.state) index in
      let text = light_text h index found.state (covering_in (view_in found.state) index) in
      on_list found.records (cert_replies why text) (prints_unless write_judged why text)
      (cert_same why text)
  work_same (Cert index start end signatures) found =
      let why = cert_refusal (view_in found.state) index start end signatures in
      let text = certificate_in h index start end signatures found.state in
      on_list found.records (cert_replies why text) (prints_unless write_judged why text)
      (cert_same why text)
  work_same (IssueList requests) found = list_issued_same requests found
      (batch_refusal (view_in found.state) false (end_offset found.records)
      (issued_items h (view_in found.state) requests))
  work_same (LightCerts first last) found =
      let why = light_certs_refusal (view_in found.state) first last in
      let text = light_certs_text h first last found.state in
      on_list found.records (several_replies why text)
      (prints_unless several_judged why text) (certs_same why text)
  work_same (Certs first last start end signatures) found =
      let why = certs_refusal (view_in found.state) first last start end signatures in
      let text = certs_text h first last start end signatures found.state in
      on_list found.records (several_replies why text)
      (prints_unless several_judged why text) (certs_same why text)
  work_same Switch found =
      switched_same found (switch_refusal (view_in found.state) false (end_offset found.records))
  work_same Tile found =
      tiled_same found (tile_refusal (view_in found.state) false (end_offset found.records))
