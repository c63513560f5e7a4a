-- Reading an export, with its faults in their order.
use Rattle.std.specs.Prelude.{◌≡◌, ◌≢◌, ℕ, zero, suc, ◌+◌, ◌==◌, nat_le, List, [], ◌∷◌}
use Rattle.std.specs.Prelude.{length, Option, Some, None, option_and_then, Result, Ok, Err}
use Rattle.std.specs.Prelude.{if◌then◌else◌, map, ◌++◌}
use Rattle.std.specs.Int.{w8, w16, w32}
use Rattle.std.specs.List.{AllByRecursion}
use Rattle.byte_formats.specs.Types.{HashFunction, Text}
use Rattle.byte_formats.specs.Offsets.{At, at}
use Rattle.byte_formats.specs.Readings.{Reading, ◌>>=◌, blamed, both_at, lifted_at, some_or}
use Rattle.hss_core.specs.Hss.{hss_key_types}
use Rattle.hss_keys.specs.Keys.{public_of}
use Rattle.lmots_core.specs.declared.parameters.OtsType.{OtsType}
use Rattle.lms_core.specs.Heights.{height}
use Rattle.lms_core.specs.declared.heights.LmsType.{LmsType}
use Rattle.tls_wire.specs.Anchors.{anchor_of}
use Rattle.tls_wire.specs.Arcs.{IsAnchorId}
use Rattle.tls_wire.specs.Reading.{vector_at}
use Rattle.tls_wire.specs.declared.cursor.Short.{Short as ShortForm}
use Rattle.cosigner_core.specs.Exports.{prefix_text, records_text}
use Rattle.cosigner_core.specs.Folds.{CosignerState}
use Rattle.cosigner_core.specs.Progress.{first_progress, is_allowed, progress_by, with_step}
use Rattle.cosigner_core.specs.Records.{FitsStep, step_in, step_record}
use Rattle.cosigner_core.specs.declared.error.ReadExportError.{ReadExportError}
use Rattle.cosigner_core.specs.declared.error.ReadExportError.TheVariants.{BadId, BadKey}
use Rattle.cosigner_core.specs.declared.error.ReadExportError.TheVariants.{BadRecord, Short}
use Rattle.cosigner_core.specs.declared.lists.Export.{Export}
use Rattle.cosigner_core.specs.declared.progress.Progress.{Progress}
use Rattle.cosigner_core.specs.declared.step.Step.{Step}
use Rattle.cosigner_core.specs.declared.terms.KeyTerms.{KeyTerms}
use Rattle.cosigner_core.specs.declared.terms.KeyTerms.TheVariants.{OneLevel, TwoLevels}

-- the terms of a key of one level or of two; it doesn't show which height its lower trees have
abbrev pub terms_of_levels : ℕ → LmsType → Option KeyTerms
terms_of_levels levels lms =
    if levels == 1 then Some (OneLevel lms)
    else (if levels == 2 then Some (TwoLevels lms None) else None)

-- the same of the types that a public key names, where its top tree has height 5 or 10
abbrev pub terms_of_types : Option (ℕ × LmsType × OtsType) → Option KeyTerms
terms_of_types None = None
terms_of_types (Some (levels, lms, ots)) =
    if nat_le (height lms) 10 then terms_of_levels levels lms else None

-- the same of a public key, which has to be in its grammar (RFC 8554, section 6.1)
unfoldable pub signing_terms : Text → Option KeyTerms
signing_terms public = terms_of_types (hss_key_types public)

-- A form that doesn't fit, as a fault of the export.
abbrev pub short_export : ShortForm → ReadExportError
short_export s = Short s.place

-- An anchor id.
unfoldable pub export_id_at : Reading Text ReadExportError
export_id_at a =
    lifted_at short_export (vector_at w8) a
    >>= λ id. blamed BadId (anchor_of id.0) >>= λ anchor. Ok (anchor, id.1)

-- A public key, and its terms.
unfoldable pub export_key_at : Reading (Text × KeyTerms) ReadExportError
export_key_at a =
    lifted_at short_export (vector_at w16) a
    >>= λ key. some_or BadKey (signing_terms key.0) >>= λ terms. Ok ((key.0, terms), key.1)

-- what stands before the records: the ids of the cosigner and of its log, and the public key
unfoldable pub export_prefix_at : Reading (Text × (Text × (Text × KeyTerms))) ReadExportError
export_prefix_at a = both_at export_id_at (both_at export_id_at export_key_at) a

-- the step that a record says, where it is allowed
abbrev pub allowed_step : HashFunction → KeyTerms → Progress → Option Step → Option Step
allowed_step h terms p None = None
allowed_step h terms p (Some step) = if is_allowed h terms p step then Some step else None

-- The record with this number: its length in four bytes, and its body, which says a step that is
-- allowed after those before it.
unfoldable pub exported_at : HashFunction → KeyTerms → ℕ → Progress → Reading Step ReadExportError
exported_at h terms number p a =
    lifted_at short_export (vector_at w32) a
    >>= λ body. some_or (BadRecord number) (allowed_step h terms p (step_in body.0))
    >>= λ step. Ok (step, body.1)

-- Records up to the end, the first of which has this number. They are at most so many.
unfoldable pub all_exported_at : HashFunction → KeyTerms → ℕ → ℕ → Progress
    → Reading (List Step) ReadExportError
all_exported_at h terms zero number p a = Ok ([], a)
all_exported_at h terms (suc most) number p a =
    if length a.rest == 0 then Ok ([], a)
    else (exported_at h terms number p a
    >>= λ x. all_exported_at h terms most (number + 1) (with_step p x.0) x.1
    >>= λ xs. Ok (x.0 ∷ xs.0, xs.1))

-- the steps of the records that are left
unfoldable pub steps_left : HashFunction → KeyTerms → At → Result (List Step) ReadExportError
steps_left h terms a =
    all_exported_at h terms (length a.rest) 1 (first_progress h) a >>= λ xs. Ok xs.0

-- An export of its head and its steps.
abbrev pub export_with : Text × (Text × (Text × KeyTerms)) → List Step → Export
export_with x steps = record { cosigner = x.0; log = x.1.0; public = x.1.1.0; steps = steps }

-- The export that these bytes are. No bytes are none.
unfoldable pub export_in : HashFunction → Text → Result (Option Export) ReadExportError
export_in h bytes =
    if length bytes == 0 then Ok None
    else (export_prefix_at (at bytes 0)
    >>= λ x. steps_left h x.0.1.1.1 x.1 >>= λ steps. Ok (Some (export_with x.0 steps)))

-- How an export is encoded: the ids, the public key, and the record of each step.
abbrev pub exported_text : Export → Text
exported_text e =
    prefix_text e.cosigner e.log e.public ++ records_text (map step_record e.steps)

-- The export of a cosigner with these steps.
abbrev pub export_of : CosignerState → List Step → Export
export_of s steps = record {
  cosigner = s.id;
  log = s.log;
  public = public_of s.key.key;
  steps = steps;
}

-- How far its steps bring the cosigner of an export, where each is allowed.
abbrev pub export_progress : HashFunction → Export → Option Progress
export_progress h e =
    option_and_then (λ terms. progress_by h terms (first_progress h) e.steps)
    (signing_terms e.public)

-- The ids are anchor ids, the key is one that signs, and each step fits a record and is allowed.
pub record IsExport (h : HashFunction) (e : Export) : Type 0 where
  pub cosigner : IsAnchorId e.cosigner
  pub log : IsAnchorId e.log
  pub fits : AllByRecursion FitsStep e.steps
  pub progress : Progress
  pub valid : export_progress h e ≡ Some progress

-- A call that moves along an input, but may answer out of memory instead of anything else.
abbrev pub MovesUnless : {X Y E : Type 0} → E → (X → Y) → Reading Y E → At → Result X E → At
    → Type 0
MovesUnless memory view read old (Ok x) new = read old ≡ Ok (view x, new)
MovesUnless memory view read old (Err e) new = e ≢ memory → read old ≡ Err e
