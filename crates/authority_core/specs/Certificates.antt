-- Certificates of the entries of a log (RFC 5280, section 4.1; of landmarks the draft on Merkle
-- Tree Certificates), and why none is written.
use Rattle.std.specs.Prelude.{◌≡◌, ◌≢◌, ℕ, ◌-◌, ◌<◌, ◌≤◌, ◌==◌, ◌||◌, not, nat_lt, nat_le, true}
use Rattle.std.specs.Prelude.{[], length, map, slice_index_or, Option, Some, None, is_none, Result}
use Rattle.std.specs.Prelude.{Ok, Err, if◌then◌else◌}
use Rattle.byte_formats.specs.Types.{Text, HashFunction}
use Rattle.mtc_io.specs.Counts.{Rose}
use Rattle.tree_core.specs.Path.{part_of, path_of}
use Rattle.tree_core.specs.Subtree.{is_subtree}
use Rattle.tree_core.specs.Tree.{leaf_hash}
use Rattle.tree_core.specs.declared.spans.Span.{Span}
use Rattle.landmarks.specs.Landmarks.{covering_of, landmarks_of}
use Rattle.cert_time.specs.Times.{validity_element}
use Rattle.cert_fields.specs.Certificate.{Parts}
use Rattle.cert_fields.specs.Given.{mtc_proof}
use Rattle.cert_fields.specs.Grammar.{IsCertificate}
use Rattle.cert_fields.specs.Encoding.{certificate}
use Rattle.mtc_proof.specs.Proofs.{ProofParts, proof_text}
use Rattle.log_entry.specs.EntryOf.{entry_of}
use Rattle.log_entry.specs.Entries.{TbsParts}
use Rattle.log_entry.specs.Forms.{form_of}
use Rattle.log_entry.specs.Reading.{entry_in}
use Rattle.issuance_log.specs.Folds.{LogState, LogView, view_in}
use Rattle.authority_core.specs.declared.writing.error.WriteError.{WriteError}
use Rattle.authority_core.specs.declared.writing.error.WriteError.TheVariants.{NoSuchEntry}
use Rattle.authority_core.specs.declared.writing.error.WriteError.TheVariants.{NullEntry}
use Rattle.authority_core.specs.declared.writing.error.WriteError.TheVariants.{BadSubtree}
use Rattle.authority_core.specs.declared.writing.error.WriteError.TheVariants.{Outside, Beyond}
use Rattle.authority_core.specs.declared.writing.error.WriteError.TheVariants.{NotCovered}
use Rattle.authority_core.specs.declared.writing.error.WriteError.TheVariants.{TooManySignatures}
use Rattle.authority_core.specs.declared.writing.error.WriteError.TheVariants.{JournalFailed}
use Rattle.authority_core.specs.declared.writing.error.WriteError.TheVariants.{TilesFailed}
use Rattle.authority_core.specs.declared.writing.error.WriteError.TheVariants.{Memory}

-- the signatures of a certificate have at most so many bytes
abbrev pub most_signatures : ℕ
most_signatures = 65535

-- The refusal of a certificate, the first that holds.
unfoldable pub cert_refusal : LogView → ℕ → ℕ → ℕ → Text → Option WriteError
cert_refusal v index start end signatures =
    if nat_le v.size index then Some NoSuchEntry
    else (if index == 0 then Some NullEntry
    else (if not (is_subtree start end) then Some BadSubtree
    else (if nat_lt index start || nat_le end index then Some Outside
    else (if nat_lt v.size end then Some (Beyond v.size)
    else (if nat_lt most_signatures (length signatures) then Some TooManySignatures
    else None)))))

-- The answer follows it, but memory may be refused, or a failure reported, after all tests.
abbrev pub KeepsToRefusal : Option WriteError → Result Text WriteError → Type 0
KeepsToRefusal wanted (Ok bytes) = wanted ≡ None
KeepsToRefusal wanted (Err NoSuchEntry) = wanted ≡ Some NoSuchEntry
KeepsToRefusal wanted (Err NullEntry) = wanted ≡ Some NullEntry
KeepsToRefusal wanted (Err BadSubtree) = wanted ≡ Some BadSubtree
KeepsToRefusal wanted (Err Outside) = wanted ≡ Some Outside
KeepsToRefusal wanted (Err (Beyond size)) = wanted ≡ Some (Beyond size)
KeepsToRefusal wanted (Err NotCovered) = ⊥
KeepsToRefusal wanted (Err TooManySignatures) = wanted ≡ Some TooManySignatures
KeepsToRefusal wanted (Err JournalFailed) = wanted ≡ None
KeepsToRefusal wanted (Err TilesFailed) = wanted ≡ None
KeepsToRefusal wanted (Err Memory) = wanted ≡ None

-- The subtree of the least landmark above an entry that holds it: none where no landmark of the log
-- is above the entry, or that landmark isn't active.
abbrev pub covering_in : LogView → ℕ → Option Span
covering_in v index = covering_of (landmarks_of v.marks v.settings.max_active) index

-- The refusal of a certificate without signatures, the first that holds.
unfoldable pub light_refusal : LogView → ℕ → Option WriteError
light_refusal v index =
    if nat_le v.size index then Some NoSuchEntry
    else (if index == 0 then Some NullEntry
    else (if is_none (covering_in v index) then Some NotCovered
    else None))

-- The answer follows it, but memory may be refused after the first two tests.
abbrev pub KeepsToLightRefusal : Option WriteError → Result Text WriteError → Type 0
KeepsToLightRefusal wanted (Ok bytes) = wanted ≡ None
KeepsToLightRefusal wanted (Err NoSuchEntry) = wanted ≡ Some NoSuchEntry
KeepsToLightRefusal wanted (Err NullEntry) = wanted ≡ Some NullEntry
KeepsToLightRefusal wanted (Err BadSubtree) = ⊥
KeepsToLightRefusal wanted (Err Outside) = ⊥
KeepsToLightRefusal wanted (Err (Beyond size)) = ⊥
KeepsToLightRefusal wanted (Err NotCovered) = wanted ≡ Some NotCovered
KeepsToLightRefusal wanted (Err TooManySignatures) = ⊥
KeepsToLightRefusal wanted (Err JournalFailed) = wanted ≡ None
KeepsToLightRefusal wanted (Err TilesFailed) = wanted ≡ None
KeepsToLightRefusal wanted (Err Memory) =
    (wanted ≢ Some NoSuchEntry) × (wanted ≢ Some NullEntry)

-- The proof of the entry at an index: its path in the subtree [start, end) of the log's entries,
-- with these signatures.
abbrev pub proof_for : HashFunction → LogState → ℕ → ℕ → ℕ → Text → ProofParts
proof_for h s index start end signatures = record {
  start = start;
  end = end;
  path = path_of h (index - start) (part_of (map (leaf_hash h) s.entries) start end);
  signatures = signatures;
}

-- What a certificate says of the fields of an entry, with its key, serial number and proof.
abbrev pub parts_with : ℕ → TbsParts → Text → Text → Parts
parts_with index t key proof = record {
  serial = index;
  algorithm = mtc_proof;
  issuer = t.issuer;
  validity = t.validity;
  validity_der = validity_element t.validity;
  subject = t.subject;
  spki = key;
  extensions = t.extensions;
  proof = proof;
}

-- The bytes are a certificate: that of this entry, in the form that it has, with its key, index and
-- proof.
pub record IsCertificateOf (h : HashFunction) (index : ℕ) (entry key proof bytes : Text)
    : Type 0 where
  pub fields : TbsParts
  pub read : entry_in entry ≡ Ok (Some fields)
  pub fits : IsCertificate (parts_with index fields key proof)
  pub made : entry_of h (form_of fields) (parts_with index fields key proof) ≡ entry
  pub written : bytes ≡ certificate (parts_with index fields key proof)

-- The bytes are the certificate of the log's entry at this index, in this subtree.
abbrev pub IsWritten : HashFunction → LogState → ℕ → ℕ → ℕ → Text → Text → Type 0
IsWritten h s index start end signatures bytes =
    IsCertificateOf h index (slice_index_or s.entries index []) (slice_index_or s.keys index [])
    (proof_text (proof_for h s index start end signatures)) bytes

-- The span is a subtree of a log of this size, and holds the entry.
pub record HoldsEntry (size index : ℕ) (span : Span) : Type 0 where
  pub valid : is_subtree span.start span.end ≡ true
  pub from : span.start ≤ index
  pub below : index < span.end
  pub within : span.end ≤ size

-- The bytes are the certificate of the log's entry at this index without signatures, in the subtree
-- of a landmark that holds it.
pub record IsLightlyWritten (h : HashFunction) (s : LogState) (index : ℕ) (bytes : Text)
    : Type 0 where
  pub span : Span
  pub covering : covering_in (view_in s) index ≡ Some span
  pub written : IsWritten h s index span.start span.end [] bytes

-- The count of failures of a journal's disk rose where it is named, and is as it was at any other
-- answer.
abbrev pub JournalCounts : {X : Type 0} → ℕ → ℕ → Result X WriteError → Type 0
JournalCounts before after (Ok x) = after ≡ before
JournalCounts before after (Err JournalFailed) = Rose before after
JournalCounts before after (Err why) = after ≡ before

-- So does that of the tiles' disk.
abbrev pub TilesCounts : {X : Type 0} → ℕ → ℕ → Result X WriteError → Type 0
TilesCounts before after (Ok x) = after ≡ before
TilesCounts before after (Err TilesFailed) = Rose before after
TilesCounts before after (Err why) = after ≡ before

-- One of the disks failed, or memory was refused.
abbrev pub IsOfDisks : WriteError → Type 0
IsOfDisks JournalFailed = Unit {0}
IsOfDisks TilesFailed = Unit {0}
IsOfDisks Memory = Unit {0}
IsOfDisks why = ⊥
