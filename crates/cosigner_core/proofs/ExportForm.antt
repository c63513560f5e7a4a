-- What is read as an export is its encoding.
use Rattle.std.proofs.Common.{◌≡◌, ℕ, zero, suc, ◌+◌, ◌^◌, ◌≤◌, true, List, [], ◌∷◌, ◌++◌}
use Rattle.std.proofs.Common.{length, Option, Some, None, Result, Ok, refl, sym, ap, ◌∙◌}
use Rattle.std.proofs.Common.{subst, append-nil, arith, inl, inr}
use Rattle.std.proofs.lemmas.Option.{same_Some}
use Rattle.std.specs.Prelude.{◌==◌, map}
use Rattle.std.specs.Int.{w8, w16, w32}
use Rattle.std.specs.List.{AllByRecursion}
use Rattle.std.proofs.lemmas.Bool.{eqb-true}
use Rattle.std.proofs.lemmas.List.{length-append, nil_from_length}
use Rattle.byte_formats.specs.Types.{HashFunction, Text}
use Rattle.byte_formats.specs.Forms.{Stands}
use Rattle.byte_formats.specs.Offsets.{At, IsBytes, at}
use Rattle.byte_formats.specs.Readings.{◌>>=◌, blamed, both_at, lifted, some_or}
use Rattle.byte_formats.proofs.Steps.{IsBytes-back, IsBytes-prefix, Stands-none, Stands-then}
use Rattle.byte_formats.proofs.Steps.{bind_ok}
use Rattle.byte_formats.proofs.Steps.{blamed_ok, chosen, lifted_ok, ok_is, some_or_ok}
use Rattle.byte_formats.proofs.Values.{when_some}
use Rattle.tls_wire.specs.Anchors.{anchor_of}
use Rattle.tls_wire.specs.Arcs.{IsAnchorId}
use Rattle.tls_wire.specs.Reading.{vector_at}
use Rattle.tls_wire.specs.Encoding.{number, vector}
use Rattle.tls_wire.proofs.AnchorForm.{anchor_takes}
use Rattle.tls_wire.proofs.Numbers.{wide8, wide16, wide32}
use Rattle.tls_wire.proofs.Vectors.{vector_form}
use Rattle.cosigner_core.specs.ExportReading.{IsExport, all_exported_at, allowed_step}
use Rattle.cosigner_core.specs.ExportReading.{export_prefix_at}
use Rattle.cosigner_core.specs.ExportReading.{export_id_at, export_in, export_key_at, export_with}
use Rattle.cosigner_core.specs.ExportReading.{exported_at, exported_text, short_export}
use Rattle.cosigner_core.specs.ExportReading.{signing_terms}
use Rattle.cosigner_core.specs.ExportReading.{steps_left}
use Rattle.cosigner_core.specs.Exports.{prefix_text, records_text}
use Rattle.cosigner_core.specs.Progress.{first_progress, is_allowed, progress_by, with_step}
use Rattle.cosigner_core.specs.Records.{FitsStep, step_in, step_record}
use Rattle.cosigner_core.specs.declared.error.ReadExportError.{ReadExportError}
use Rattle.cosigner_core.specs.declared.error.ReadExportError.TheVariants.{BadId, BadKey, BadRecord}
use Rattle.cosigner_core.specs.declared.lists.Export.{Export}
use Rattle.cosigner_core.specs.declared.progress.Progress.{Progress}
use Rattle.cosigner_core.specs.declared.step.Step.{Step}
use Rattle.cosigner_core.specs.declared.terms.KeyTerms.{KeyTerms}
use Rattle.cosigner_core.proofs.Encoded.{step_takes}

-- the bytes of a vector that stands somewhere are bytes
vector_bytes : (a : At) (size bytes : Text) (b : At) → IsBytes a.rest
    → Stands a (size ++ bytes) b → IsBytes bytes
vector_bytes a size bytes b are stands =
    IsBytes-back size bytes (IsBytes-prefix (size ++ bytes) b.rest (subst IsBytes stands.parts are))

-- ---- one record

allowed_is : (h : HashFunction) (terms : KeyTerms) (p : Progress) (said : Option Step) (step : Step)
    → allowed_step h terms p said ≡ Some step
    → (said ≡ Some step) × (is_allowed h terms p step ≡ true)
allowed_is h terms p None step is = let wrong : None ≡ Some step = is in cc
allowed_is h terms p (Some s) step is =
    let made = when_some (is_allowed h terms p s) (Some s) step is in
    (made.1, subst (λ (t : Step). is_allowed h terms p t ≡ true) (same_Some s step made.1) made.0)

exported_takes : (h : HashFunction) (terms : KeyTerms) (k : ℕ) (p : Progress) (a : At)
    (x : Step × At)
    → IsBytes a.rest → exported_at h terms k p a ≡ Ok x
    → Stands a (vector w32 (step_record x.0)) x.1 × (is_allowed h terms p x.0 ≡ true) × FitsStep x.0
unfolding exported_at
exported_takes h terms k p a x are e =
    let s = bind_ok (lifted short_export (vector_at w32 a)) (λ (body : Text
    × At). some_or (BadRecord k) (allowed_step h terms p (step_in body.0))
    >>= λ (step : Step). Ok (step, body.1)) x e in
    let t = bind_ok (some_or (BadRecord k) (allowed_step h terms p (step_in s.0.0)))
    (λ (step : Step). Ok (step, s.0.1)) x s.2 in
    let stands = (vector_form w32 (2 ^ 32) wide32).takes a s.0.0 s.0.1 are
    (lifted_ok short_export (vector_at w32 a) s.0 s.1) in
    let fits = allowed_is h terms p (step_in s.0.0) t.0
    (some_or_ok (BadRecord k) (allowed_step h terms p (step_in s.0.0)) t.0 t.1) in
    let body = step_takes s.0.0 t.0
    (vector_bytes a (number w32 (length s.0.0)) s.0.0 s.0.1 are stands.0) fits.0 in
    subst (λ (y : Step × At). Stands a (vector w32 (step_record y.0)) y.1
    × (is_allowed h terms p y.0 ≡ true) × FitsStep y.0) (ok_is ReadExportError (t.0, s.0.1) x t.2)
    (subst (λ (text : Text). Stands a (vector w32 text) s.0.1) body.0 stands.0, fits.1, body.1)

-- ---- all records

-- records that were read up to the end
record TakesSteps (h : HashFunction) (terms : KeyTerms) (p : Progress) (a : At)
    (x : List Step × At) : Type 0 where
  pub stands : Stands a (records_text (map step_record x.0)) x.1
  pub end : x.1.rest ≡ []
  pub fits : AllByRecursion FitsStep x.0
  pub progress : Progress
  pub valid : progress_by h terms p x.0 ≡ Some progress

no_steps : (h : HashFunction) (terms : KeyTerms) (p : Progress) (a : At) → IsBytes a.rest
    → a.rest ≡ [] → TakesSteps h terms p a ([], a)
unfolding progress_by
no_steps h terms p a are none = record {
  stands = Stands-none a are;
  end = none;
  fits = tt;
  progress = p;
  valid = refl;
}

more_steps : (h : HashFunction) (terms : KeyTerms) (p : Progress) (a : At) (x : Step) (b : At)
    (xs : List Step × At) → Stands a (vector w32 (step_record x)) b
    → is_allowed h terms p x ≡ true → FitsStep x → TakesSteps h terms (with_step p x) b xs
    → TakesSteps h terms p a (x ∷ xs.0, xs.1)
unfolding progress_by
more_steps h terms p a x b xs stands allowed fits rest = record {
  stands = Stands-then a (vector w32 (step_record x)) b (records_text (map step_record xs.0)) xs.1
      stands rest.stands;
  end = rest.end;
  fits = (fits, rest.fits);
  progress = rest.progress;
  valid = rw allowed rest.valid;
}

steps_take : (h : HashFunction) (terms : KeyTerms) (most k : ℕ) (p : Progress) (a : At)
    (x : List Step × At)
    → IsBytes a.rest → length a.rest ≤ most → all_exported_at h terms most k p a ≡ Ok x
    → TakesSteps h terms p a x
unfolding all_exported_at
steps_take h terms zero k p a x are few e =
    subst (TakesSteps h terms p a) (ok_is ReadExportError ([], a) x e)
    (no_steps h terms p a are (nil_from_length a.rest (omega arith)))
steps_take h terms (suc most) k p a x are few e =
    let more : Result (List Step × At) ReadExportError =
    exported_at h terms k p a
    >>= λ (y : Step × At). all_exported_at h terms most (k + 1) (with_step p y.0) y.1
    >>= λ (xs : List Step × At). Ok (y.0 ∷ xs.0, xs.1) in
    elim (chosen (length a.rest == 0) (Ok ([], a)) more (Ok x) e) [
      | inl c ↦ subst (TakesSteps h terms p a) (ok_is ReadExportError ([], a) x c.1)
          (no_steps h terms p a are (nil_from_length a.rest (eqb-true (length a.rest) 0 c.0)))
      | inr c ↦
          let s = bind_ok (exported_at h terms k p a)
          (λ (y : Step × At). all_exported_at h terms most (k + 1) (with_step p y.0) y.1
          >>= λ (xs : List Step × At). Ok (y.0 ∷ xs.0, xs.1)) x c.1 in
          let t = bind_ok (all_exported_at h terms most (k + 1) (with_step p s.0.0) s.0.1)
          (λ (xs : List Step × At). Ok (s.0.0 ∷ xs.0, xs.1)) x s.2 in
          let one = exported_takes h terms k p a s.0 are s.1 in
          let less : length s.0.1.rest ≤ most = omega (
            arith,
            ap length one.0.parts,
            length-append (vector w32 (step_record s.0.0)) s.0.1.rest,
          ) in
          let rest = steps_take h terms most (k + 1) (with_step p s.0.0) s.0.1 t.0 one.0.bytes
          less t.1 in
          subst (TakesSteps h terms p a) (ok_is ReadExportError (s.0.0 ∷ t.0.0, t.0.1) x t.2)
          (more_steps h terms p a s.0.0 s.0.1 t.0 one.0 one.1 one.2 rest)
    ]

-- ---- the prefix

id_takes : (a : At) (x : Text × At) → IsBytes a.rest → export_id_at a ≡ Ok x
    → Stands a (vector w8 x.0) x.1 × IsAnchorId x.0
unfolding export_id_at
id_takes a x are e =
    let s = bind_ok (lifted short_export (vector_at w8 a)) (λ (id : Text
    × At). blamed BadId (anchor_of id.0) >>= λ (anchor : Text). Ok (anchor, id.1)) x e in
    let t = bind_ok (blamed BadId (anchor_of s.0.0)) (λ (anchor : Text). Ok (anchor, s.0.1)) x
    s.2 in
    let stands = (vector_form w8 (2 ^ 8) wide8).takes a s.0.0 s.0.1 are
    (lifted_ok short_export (vector_at w8 a) s.0 s.1) in
    let id = anchor_takes s.0.0 t.0
    (vector_bytes a (number w8 (length s.0.0)) s.0.0 s.0.1 are stands.0)
    (blamed_ok BadId (anchor_of s.0.0) t.0 t.1) in
    subst (λ (y : Text × At). Stands a (vector w8 y.0) y.1 × IsAnchorId y.0)
    (ok_is ReadExportError (t.0, s.0.1) x t.2)
    (subst (λ (text : Text). Stands a (vector w8 text) s.0.1 × IsAnchorId text) (sym id.0)
    (stands.0, id.1))

key_takes : (a : At) (x : (Text × KeyTerms) × At) → IsBytes a.rest → export_key_at a ≡ Ok x
    → Stands a (vector w16 x.0.0) x.1 × (signing_terms x.0.0 ≡ Some x.0.1)
unfolding export_key_at
key_takes a x are e =
    let s = bind_ok (lifted short_export (vector_at w16 a)) (λ (key : Text
    × At). some_or BadKey (signing_terms key.0) >>= λ (terms : KeyTerms). Ok
    ((key.0, terms), key.1)) x e in
    let t = bind_ok (some_or BadKey (signing_terms s.0.0))
    (λ (terms : KeyTerms). Ok ((s.0.0, terms), s.0.1))
    x s.2 in
    let stands = (vector_form w16 (2 ^ 16) wide16).takes a s.0.0 s.0.1 are
    (lifted_ok short_export (vector_at w16 a) s.0 s.1) in
    subst (λ (y : (Text × KeyTerms) × At). Stands a (vector w16 y.0.0) y.1
    × (signing_terms y.0.0 ≡ Some y.0.1))
    (ok_is ReadExportError ((s.0.0, t.0), s.0.1) x t.2)
    (stands.0, some_or_ok BadKey (signing_terms s.0.0) t.0 t.1)

abbrev Prefix : Type 0
Prefix = Text × (Text × (Text × KeyTerms))

record TakesPrefix (a : At) (x : Prefix × At) : Type 0 where
  pub stands : Stands a (prefix_text x.0.0 x.0.1.0 x.0.1.1.0) x.1
  pub cosigner : IsAnchorId x.0.0
  pub log : IsAnchorId x.0.1.0
  pub terms : signing_terms x.0.1.1.0 ≡ Some x.0.1.1.1

prefix_takes : (a : At) (x : Prefix × At) → IsBytes a.rest → export_prefix_at a ≡ Ok x
    → TakesPrefix a x
unfolding export_prefix_at
prefix_takes a x are e =
    let s = bind_ok (export_id_at a) (λ (y : Text × At). both_at export_id_at export_key_at y.1
    >>= λ (z : (Text × (Text × KeyTerms)) × At). Ok ((y.0, z.0), z.1)) x e in
    let t = bind_ok (both_at export_id_at export_key_at s.0.1)
    (λ (z : (Text × (Text × KeyTerms)) × At). Ok ((s.0.0, z.0), z.1)) x s.2 in
    let u = bind_ok (export_id_at s.0.1) (λ (y : Text × At). export_key_at y.1
    >>= λ (z : (Text × KeyTerms) × At). Ok ((y.0, z.0), z.1)) t.0 t.1 in
    let w = bind_ok (export_key_at u.0.1)
    (λ (z : (Text × KeyTerms) × At). Ok ((u.0.0, z.0), z.1)) t.0
    u.2 in
    let one = id_takes a s.0 are s.1 in
    let two = id_takes s.0.1 u.0 one.0.bytes u.1 in
    let three = key_takes u.0.1 w.0 two.0.bytes w.1 in
    let made : TakesPrefix a ((s.0.0, (u.0.0, w.0.0)), w.0.1) = record {
      stands = Stands-then a (vector w8 s.0.0) s.0.1 (vector w8 u.0.0 ++ vector w16 w.0.0.0) w.0.1
          one.0 (Stands-then s.0.1 (vector w8 u.0.0) u.0.1 (vector w16 w.0.0.0) w.0.1 two.0
          three.0);
      cosigner = one.1;
      log = two.1;
      terms = three.1;
    } in
    subst (TakesPrefix a) (ok_is ReadExportError ((s.0.0, t.0.0), t.0.1) x t.2)
    (subst (λ (z : (Text × (Text × KeyTerms)) × At). TakesPrefix a ((s.0.0, z.0), z.1))
    (ok_is ReadExportError ((u.0.0, w.0.0), w.0.1) t.0 w.2) made)

-- ---- the whole

pub export_takes : (h : HashFunction) (bytes : Text) (e : Export) → IsBytes bytes
    → export_in h bytes ≡ Ok (Some e) → (bytes ≡ exported_text e) × IsExport h e
unfolding export_in steps_left
export_takes h bytes e are is =
    let more : Result (Option Export) ReadExportError =
    export_prefix_at (at bytes 0)
    >>= λ (x : Prefix × At). steps_left h x.0.1.1.1 x.1
    >>= λ (steps : List Step). Ok (Some (export_with x.0 steps)) in
    elim (chosen (length bytes == 0) (Ok None) more (Ok (Some e)) is) [
      | inl c ↦ let wrong : None ≡ Some e = ok_is ReadExportError None (Some e) c.1 in absurd cc
      | inr c ↦
          let s = bind_ok (export_prefix_at (at bytes 0)) (λ (x : Prefix
          × At). steps_left h x.0.1.1.1 x.1
          >>= λ (steps : List Step). Ok (Some (export_with x.0 steps))) (Some e) c.1 in
          let t = bind_ok (steps_left h s.0.0.1.1.1 s.0.1)
          (λ (steps : List Step). Ok (Some (export_with s.0.0 steps))) (Some e) s.2 in
          let v = bind_ok (all_exported_at h s.0.0.1.1.1 (length s.0.1.rest) 1 (first_progress h)
          s.0.1) (λ (xs : List Step × At). Ok xs.0) t.0 t.1 in
          let prefix = prefix_takes (at bytes 0) s.0 are s.1 in
          let steps = steps_take h s.0.0.1.1.1 (length s.0.1.rest) 1 (first_progress h) s.0.1 v.0
          prefix.stands.bytes (omega arith) v.1 in
          let text : bytes ≡ exported_text (export_with s.0.0 v.0.0) =
          prefix.stands.parts
          ∙ ap (λ (rest : Text). prefix_text s.0.0.0 s.0.0.1.0 s.0.0.1.1.0 ++ rest)
          (steps.stands.parts
          ∙ ap (λ (rest : Text). records_text (map step_record v.0.0) ++ rest) steps.end
          ∙ append-nil (records_text (map step_record v.0.0))) in
          let made : IsExport h (export_with s.0.0 v.0.0) = record {
            cosigner = prefix.cosigner;
            log = prefix.log;
            fits = steps.fits;
            progress = steps.progress;
            valid = rw prefix.terms steps.valid;
          } in
          let P : Export → Type 0 = λ f. (bytes ≡ exported_text f) × IsExport h f in
          subst P (same_Some (export_with s.0.0 t.0) e
          (ok_is ReadExportError (Some (export_with s.0.0 t.0)) (Some e) t.2))
          (subst (λ (xs : List Step). P (export_with s.0.0 xs))
          (ok_is ReadExportError v.0.0 t.0 v.2)
          (text, made))
    ]
