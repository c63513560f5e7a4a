-- What of its files and journals follows from the text of a command: of `issue`, `issue-list` and
-- `switch`, of those that open a cosigner's journal or are given a secret file, and of those by
-- which a mirror has a cosigner take a step.
use Rattle.std.specs.Prelude.{◌≡◌, ◌≤◌, ℕ, false, List, [], ◌∷◌, length, Option, None, Ok}
use Rattle.std.specs.Prelude.{Some, option_map}
use Rattle.byte_formats.specs.Types.{HashFunction, Text}
use Rattle.journal_core.specs.Format.{end_offset}
use Rattle.authority_core.specs.Files.{request_of}
use Rattle.authority_core.specs.Issues.{issued_batch, issued_entry, issued_items, issued_record}
use Rattle.authority_core.specs.RequestLists.{requests_of}
use Rattle.authority_core.specs.Requests.{RequestParts}
use Rattle.cosigner_core.specs.Children.{child_refused, next_child}
use Rattle.cosigner_core.specs.Exports.{export_text}
use Rattle.cosigner_core.specs.Openings.{FoundCosigner, cosigner_read}
use Rattle.cosigner_core.specs.Reading.{advance_in, subtree_in}
use Rattle.cosigner_core.specs.Records.{advance_record, cosigner_record, sign_record}
use Rattle.cosigner_core.specs.Refusals.{advance_refused, cosign_refused}
use Rattle.cosigner_core.specs.Requests.{AdvanceParts, SubtreeParts}
use Rattle.issuance_log.specs.Folds.{view_in}
use Rattle.issuance_log.specs.Openings.{FoundLog, log_read}
use Rattle.issuance_log.specs.Records.{switch_record}
use Rattle.issuance_log.specs.Refusals.{add_refusal, batch_refusal, switch_refusal}
use Rattle.mirror_core.specs.Openings.{FoundMirror, mirror_read}
use Rattle.mirror_cosigner.specs.Refusals.{mirror_advance_refusal, mirror_cosign_refusal}
use Rattle.mirror_cosigner.specs.Requests.{advance_by_mirror, subtree_by_mirror}
use Rattle.mtc_words.specs.Commands.{advance, child, cosign, export, init_cosigner, issue}
use Rattle.mtc_words.specs.Commands.{issue_list, keygen, mirror_advance, mirror_cosign, switch}
use Rattle.mtc_command.specs.Answers.{Reply, said}
use Rattle.mtc_command.specs.Made.{appended, reads, started}
use Rattle.mtc_command.specs.Steps.{Files, Outcome}
use Rattle.mtc_command.specs.Wanted.{Meets}
use Rattle.mtc_command.specs.declared.answer.Said.{Said}
use Rattle.mtc_command.specs.declared.answer.Said.TheVariants.{Done}
use Rattle.mtc_authority.specs.IssueOutcome.{issued_text}
use Rattle.mtc_authority.specs.ListOutcomes.{issued_lines}
use Rattle.mtc_authority.specs.SwitchOutcome.{switched_line}
use Rattle.mtc_cosigner.specs.CosignerOutcomes.{advanced_text, child_line, cosigned_text}
use Rattle.mtc_cosigner.specs.InitOutcome.{cosigner_settings_of}
use Rattle.mtc_cosigner.specs.KeygenOutcome.{lms_type, ots_type, public_line}
use Rattle.mtc_plans.specs.Commands.{planned_outcome}

-- The file holds this, within the limit of a small file.
pub record HoldsSmall (files : Files) (file text : Text) : Type 0 where
  pub there : files file ≡ Some text
  pub few : length text ≤ 16777216

-- So it is of each text that this outcome may say.
abbrev pub OfSaid : Outcome → (Reply → Type 0) → Type 0
OfSaid wanted P =
    (status : Said) (text : Text) → Meets wanted.answer (said status text) → P (said status text)

-- ---- `issue`

-- A request was read, a log was found that takes its entry, and the entry is added. The text is the
-- index of that.
pub record IssuesSo (h : HashFunction) (files : Files) (journal file : Text) (reply : Reply)
    : Type 0 where
  pub bytes : Text
  pub has_bytes : HoldsSmall files file bytes
  pub request : RequestParts
  pub asked : request_of bytes ≡ Ok request
  pub held : Text
  pub there : files journal ≡ Some held
  pub found : FoundLog
  pub is_log : log_read h held ≡ Ok found
  pub fits : add_refusal (view_in found.state) false (end_offset found.records)
      (issued_entry h (view_in found.state) request) request.key ≡ None
  pub did : (planned_outcome h (issue journal file) files).journals
      ≡ appended found.records (issued_record h (view_in found.state) request) ∷ []
  pub reply_is : reply ≡ said Done (issued_text (view_in found.state).size)

-- So it is of each text that `issue` may say.
abbrev pub IssuedTextsAreOfRecords : Type 0
IssuedTextsAreOfRecords = (h : HashFunction) (files : Files) (journal file : Text)
    → OfSaid (planned_outcome h (issue journal file) files) (IssuesSo h files journal file)

-- ---- `issue-list`

-- Requests were read, a log was found that takes the entries of all of them, and they are added by
-- one record. The text has their indexes, a line for each.
pub record IssuesAllSo (h : HashFunction) (files : Files) (journal file : Text) (reply : Reply)
    : Type 0 where
  pub bytes : Text
  pub has_bytes : HoldsSmall files file bytes
  pub requests : List RequestParts
  pub asked : requests_of bytes ≡ Ok requests
  pub held : Text
  pub there : files journal ≡ Some held
  pub found : FoundLog
  pub is_log : log_read h held ≡ Ok found
  pub fits : batch_refusal (view_in found.state) false (end_offset found.records)
      (issued_items h (view_in found.state) requests) ≡ None
  pub did : (planned_outcome h (issue_list journal file) files).journals
      ≡ appended found.records (issued_batch h (view_in found.state) requests) ∷ []
  pub reply_is : reply ≡ said Done (issued_lines (view_in found.state).size (length requests))

-- So it is of each text that `issue-list` may say.
abbrev pub IssuedListsAreOfRecords : Type 0
IssuedListsAreOfRecords = (h : HashFunction) (files : Files) (journal file : Text)
    → OfSaid (planned_outcome h (issue_list journal file) files) (IssuesAllSo h files journal file)

-- ---- `switch`

-- A log was found that may be switched, and a Switch is added. The text is the size of that log.
pub record SwitchesSo (h : HashFunction) (files : Files) (journal : Text) (reply : Reply)
    : Type 0 where
  pub held : Text
  pub there : files journal ≡ Some held
  pub found : FoundLog
  pub is_log : log_read h held ≡ Ok found
  pub fits : switch_refusal (view_in found.state) false (end_offset found.records) ≡ None
  pub did : (planned_outcome h (switch journal) files).journals
      ≡ appended found.records (switch_record (view_in found.state).size) ∷ []
  pub reply_is : reply ≡ said Done (switched_line (view_in found.state).size)

-- So it is of each text that `switch` may say.
abbrev pub SwitchedTextsAreOfRecords : Type 0
SwitchedTextsAreOfRecords = (h : HashFunction) (files : Files) (journal : Text)
    → OfSaid (planned_outcome h (switch journal) files) (SwitchesSo h files journal)

-- ---- a cosigner's journal

-- A request was read, a cosigner was found that takes the step, and an Advance record is added. The
-- text is the size of the request.
pub record AdvancesSo (h : HashFunction) (files : Files) (journal file : Text) (reply : Reply)
    : Type 0 where
  pub bytes : Text
  pub has_bytes : HoldsSmall files file bytes
  pub request : AdvanceParts
  pub asked : advance_in bytes ≡ Ok request
  pub held : Text
  pub there : files journal ≡ Some held
  pub found : FoundCosigner
  pub is_cosigner : cosigner_read h held ≡ Ok found
  pub fits : advance_refused h found.state false (end_offset found.records) request ≡ None
  pub did : (planned_outcome h (advance journal file) files).journals
      ≡ appended found.records (advance_record request.size request.root request.proof) ∷ []
  pub reply_is : reply ≡ said Done (advanced_text request.size)

-- So it is of each text that `advance` may say.
abbrev pub AdvancedTextsAreOfRecords : Type 0
AdvancedTextsAreOfRecords = (h : HashFunction) (files : Files) (journal file : Text)
    → OfSaid (planned_outcome h (advance journal file) files) (AdvancesSo h files journal file)

-- A request was read, a cosigner was found that takes the step, and a Sign record is added. The
-- text is the signature by the next one-time key.
pub record CosignsSo (h : HashFunction) (files : Files) (journal file : Text) (reply : Reply)
    : Type 0 where
  pub bytes : Text
  pub has_bytes : HoldsSmall files file bytes
  pub request : SubtreeParts
  pub asked : subtree_in bytes ≡ Ok request
  pub held : Text
  pub there : files journal ≡ Some held
  pub found : FoundCosigner
  pub is_cosigner : cosigner_read h held ≡ Ok found
  pub fits : cosign_refused h found.state false (end_offset found.records) request ≡ None
  pub did : (planned_outcome h (cosign journal file) files).journals
      ≡ appended found.records (sign_record found.state.key.next request.start request.end
      request.hash request.proof) ∷ []
  pub reply_is : reply ≡ said Done (cosigned_text found.state request)

-- So it is of each text that `cosign` may say.
abbrev pub CosignedTextsAreOfRecords : Type 0
CosignedTextsAreOfRecords = (h : HashFunction) (files : Files) (journal file : Text)
    → OfSaid (planned_outcome h (cosign journal file) files) (CosignsSo h files journal file)

-- A cosigner was found that may have a further lower tree, and a Child record is added. The text is
-- the number of that tree.
pub record HasChildSo (h : HashFunction) (files : Files) (journal : Text) (reply : Reply)
    : Type 0 where
  pub held : Text
  pub there : files journal ≡ Some held
  pub found : FoundCosigner
  pub is_cosigner : cosigner_read h held ≡ Ok found
  pub fits : child_refused found.state false (end_offset found.records) ≡ None
  pub did : (planned_outcome h (child journal) files).journals
      ≡ appended found.records (next_child found.state) ∷ []
  pub reply_is : reply ≡ said Done (child_line found.state.key.children)

-- So it is of each text that `child` may say.
abbrev pub ChildTextsAreOfRecords : Type 0
ChildTextsAreOfRecords = (h : HashFunction) (files : Files) (journal : Text)
    → OfSaid (planned_outcome h (child journal) files) (HasChildSo h files journal)

-- A cosigner was found, and no record is added. The text is what others may know of it.
pub record ExportsSo (h : HashFunction) (files : Files) (journal : Text) (reply : Reply)
    : Type 0 where
  pub held : Text
  pub there : files journal ≡ Some held
  pub found : FoundCosigner
  pub is_cosigner : cosigner_read h held ≡ Ok found
  pub did : (planned_outcome h (export journal) files).journals ≡ reads found.records ∷ []
  pub reply_is : reply ≡ said Done (export_text found.state found.records)

-- So it is of each text that `export` may say.
abbrev pub ExportedTextsAreOfRecords : Type 0
ExportedTextsAreOfRecords = (h : HashFunction) (files : Files) (journal : Text)
    → OfSaid (planned_outcome h (export journal) files) (ExportsSo h files journal)

-- ---- the journals of a cosigner and of a mirror

-- A cosigner was found in the first one, and a mirror in the second one.
pub record FindsBoth (h : HashFunction) (files : Files) (signer journal : Text) : Type 0 where
  pub held : Text
  pub there : files signer ≡ Some held
  pub found : FoundCosigner
  pub is_cosigner : cosigner_read h held ≡ Ok found
  pub mirror_held : Text
  pub mirror_there : files journal ≡ Some mirror_held
  pub mirrored : FoundMirror
  pub is_mirror : mirror_read h mirror_held ≡ Ok mirrored

-- Both were found, the mirror's request is refused by neither, and an Advance record of it is added
-- to the cosigner's journal alone. The text is the size that was asked for.
pub record MirrorAdvancesSo (h : HashFunction) (files : Files) (signer journal : Text) (size : ℕ)
    (reply : Reply) : Type 0 where
  pub both : FindsBoth h files signer journal
  pub fits : mirror_advance_refusal h both.mirrored.state both.found.state false
      (end_offset both.found.records) size ≡ None
  pub did : let request = advance_by_mirror h both.mirrored.state both.found.state.held size in
      (planned_outcome h (mirror_advance signer journal size) files).journals
      ≡ appended both.found.records (advance_record request.size request.root request.proof)
      ∷ (reads both.mirrored.records ∷ [])
  pub reply_is : reply ≡ said Done (advanced_text size)

-- So it is of each text that `mirror-advance` may say.
abbrev pub MirrorAdvancedTextsAreOfRecords : Type 0
MirrorAdvancedTextsAreOfRecords = (h : HashFunction) (files : Files) (signer journal : Text)
    (size : ℕ) → OfSaid (planned_outcome h (mirror_advance signer journal size) files)
    (MirrorAdvancesSo h files signer journal size)

-- Both were found, the mirror's request is refused by neither, and a Sign record of it is added to
-- the cosigner's journal alone. The text is the signature by the next one-time key.
pub record MirrorCosignsSo (h : HashFunction) (files : Files) (signer journal : Text)
    (start end : ℕ) (reply : Reply) : Type 0 where
  pub both : FindsBoth h files signer journal
  pub fits : mirror_cosign_refusal h both.mirrored.state both.found.state false
      (end_offset both.found.records) start end ≡ None
  pub did : let request = subtree_by_mirror h both.mirrored.state both.found.state.held start end in
      (planned_outcome h (mirror_cosign signer journal start end) files).journals
      ≡ appended both.found.records (sign_record both.found.state.key.next request.start
      request.end request.hash request.proof) ∷ (reads both.mirrored.records ∷ [])
  pub reply_is : reply ≡ said Done (cosigned_text both.found.state
      (subtree_by_mirror h both.mirrored.state both.found.state.held start end))

-- So it is of each text that `mirror-cosign` may say.
abbrev pub MirrorCosignedTextsAreOfRecords : Type 0
MirrorCosignedTextsAreOfRecords = (h : HashFunction) (files : Files) (signer journal : Text)
    (start end : ℕ) → OfSaid (planned_outcome h (mirror_cosign signer journal start end) files)
    (MirrorCosignsSo h files signer journal start end)

-- ---- a secret file

-- A secret was read. The text is its public key, of one level or of two.
pub record KeysSo (files : Files) (top : ℕ) (low : Option ℕ) (width : ℕ) (file : Text)
    (reply : Reply) : Type 0 where
  pub secret : Text
  pub has_secret : HoldsSmall files file secret
  pub reply_is : reply
      ≡ said Done (public_line (lms_type top) (option_map lms_type low) (ots_type width) secret)

-- So it is of each text that `keygen` may say.
abbrev pub KeyTextsAreOfSecrets : Type 0
KeyTextsAreOfSecrets = (h : HashFunction) (files : Files) (height width : ℕ) (file : Text)
    → OfSaid (planned_outcome h (keygen height width file) files)
    (KeysSo files height None width file)

-- The text is the line of a new cosigner. Its journal had no file, and its first record is of the
-- secret.
pub record BeginsSo (h : HashFunction) (files : Files) (journal id log_id : Text)
    (top : ℕ) (low : Option ℕ) (width : ℕ) (file : Text) (reply : Reply) : Type 0 where
  pub keys : KeysSo files top low width file reply
  pub fresh : files journal ≡ None
  pub did : (planned_outcome h (init_cosigner journal id log_id top low width file) files).journals
      ≡ started (cosigner_record (cosigner_settings_of id log_id top low width) keys.secret) ∷ []

-- So it is of each text that `init-cosigner` and `init-cosigner2` may say.
abbrev pub BegunTextsAreOfSecrets : Type 0
BegunTextsAreOfSecrets = (h : HashFunction) (files : Files) (journal id log_id : Text)
    (top : ℕ) (low : Option ℕ) (width : ℕ) (file : Text)
    → OfSaid (planned_outcome h (init_cosigner journal id log_id top low width file) files)
    (BeginsSo h files journal id log_id top low width file)
