-- The bytes of an export are read as it.
use Rattle.std.proofs.Common.{◌≡◌, ◌≢◌, ℕ, zero, suc, ◌+◌, ◌*◌, ◌^◌, ◌<◌, ◌≤◌, true, List, [], ◌∷◌}
use Rattle.std.proofs.Common.{◌++◌, length, drop, Bool, false, Some, None, Ok, refl, ap, ◌∙◌, arith}
use Rattle.std.proofs.Common.{ne_eqb}
use Rattle.std.proofs.lemmas.Option.{same_Some}
use Rattle.std.specs.Prelude.{map, if◌then◌else◌, ◌==◌, ◌&&◌, nat_le}
use Rattle.std.specs.Int.{w8, w16, w32, w64, to_be_bytes}
use Rattle.std.specs.List.{AllByRecursion, concat}
use Rattle.std.proofs.lemmas.Bool.{and_parts, eqb-true}
use Rattle.std.proofs.lemmas.List.{length-append}
use Rattle.byte_formats.specs.Types.{Hash, HashFunction, Text}
use Rattle.byte_formats.specs.Offsets.{At}
use Rattle.byte_formats.proofs.Values.{then_some, when_some}
use Rattle.hss_core.specs.Hss.{hss_key_types, with_levels}
use Rattle.lmots_core.specs.Strings.{u32_at}
use Rattle.lms_core.specs.Refusals.{key_types}
use Rattle.tls_wire.specs.Encoding.{hashes, number, vector}
use Rattle.cosigner_core.specs.ExportReading.{IsExport, all_exported_at, export_in, exported_text}
use Rattle.cosigner_core.specs.ExportReading.{terms_of_types, signing_terms, steps_left}
use Rattle.cosigner_core.specs.Exports.{prefix_text, records_text}
use Rattle.cosigner_core.specs.Progress.{first_progress, is_allowed, progress_by, with_step}
use Rattle.cosigner_core.specs.Records.{FitsStep, advance_record, child_record, height_text}
use Rattle.cosigner_core.specs.Records.{sign_record, step_record}
use Rattle.cosigner_core.specs.declared.lists.Export.{Export}
use Rattle.cosigner_core.specs.declared.progress.Progress.{Progress}
use Rattle.cosigner_core.specs.declared.step.Step.{Step}
use Rattle.cosigner_core.specs.declared.step.Step.TheVariants.{Advance, Child, Sign}
use Rattle.cosigner_core.specs.declared.terms.KeyTerms.{KeyTerms}
use Rattle.cosigner_core.proofs.ExportAgain.{exported_again, prefix_again}
use Rattle.cosigner_core.proofs.Encoded.{step_again}

-- ---- lengths

joined_size : (items : List Hash) → AllByRecursion (λ hash. length hash ≡ 32) items
    → length (concat items) ≡ length items * 32
joined_size [] all = refl
joined_size (x ∷ items) all =
    let one = all.0 in
    let rest = joined_size items all.1 in
    omega (arith, length-append x (concat items))

hashes_size : (items : List Hash) → AllByRecursion (λ hash. length hash ≡ 32) items
    → length (hashes items) ≡ 2 + length items * 32
hashes_size items all =
    omega (
      arith,
      length-append (to_be_bytes w16 (length (concat items))) (concat items),
      joined_size items all,
    )

step_short : (step : Step) → FitsStep step → length (step_record step) < 2 ^ 32
unfolding advance_record sign_record child_record
step_short (Advance size root proof) fits =
    let sized = fits.sized in
    let few = fits.all_hashes.1 in
    omega (
      arith,
      length-append (number w8 0x12) (number w64 size ++ (root ++ hashes proof)),
      length-append (number w64 size) (root ++ hashes proof),
      length-append root (hashes proof),
      hashes_size proof fits.all_hashes.0,
    )
step_short (Sign index start end hash proof) fits =
    let sized = fits.sized in
    let few = fits.all_hashes.1 in
    omega (
      arith,
      length-append (number w8 0x13) (number w32 index ++ (number w64 start ++ (number w64 end
          ++ (hash ++ hashes proof)))),
      length-append (number w32 index) (number w64 start ++ (number w64 end
          ++ (hash ++ hashes proof))),
      length-append (number w64 start) (number w64 end ++ (hash ++ hashes proof)),
      length-append (number w64 end) (hash ++ hashes proof),
      length-append hash (hashes proof),
      hashes_size proof fits.all_hashes.0,
    )
step_short (Child child low) fits =
    omega (
      arith,
      length-append (number w8 0x14) (number w32 child ++ height_text low),
      length-append (number w32 child) (height_text low),
    )

types_size : (key : Text) (terms : KeyTerms) → terms_of_types (hss_key_types key) ≡ Some terms
    → length key ≡ 60
unfolding hss_key_types
types_size key terms is = go ((length key == 60) && nat_le 1 (u32_at key 0)
    && nat_le (u32_at key 0) 8) refl is
  where
    go : (b : Bool) → ((length key == 60) && nat_le 1 (u32_at key 0) && nat_le (u32_at key 0) 8) ≡ b
        → terms_of_types (if b then with_levels (u32_at key 0) (key_types (drop 4 key)) else None)
        ≡ Some terms → length key ≡ 60
    go true test is = eqb-true (length key) 60 (and_parts (length key == 60) _
        (and_parts ((length key == 60) && nat_le 1 (u32_at key 0)) _ test).0).0
    go false test is = let wrong : None ≡ Some terms = is in absurd cc

key_size : (key : Text) (terms : KeyTerms) → signing_terms key ≡ Some terms → length key ≡ 60
unfolding signing_terms
key_size key terms is = types_size key terms is

-- ---- the records

-- all of them are read as their steps
record AreRead (h : HashFunction) (terms : KeyTerms) (most k place : ℕ) (p : Progress)
    (steps : List Step)
    : Type 0 where
  pub end : At
  pub read : all_exported_at h terms most k p
      (record { place = place; rest = records_text (map step_record steps) }) ≡ Ok (steps, end)

none_read : (h : HashFunction) (terms : KeyTerms) (most k place : ℕ) (p : Progress)
    → AreRead h terms most k place p []
unfolding all_exported_at
none_read h terms zero k place p = record { end = record { place = place; rest = [] }; read = refl }
none_read h terms (suc most) k place p =
    record { end = record { place = place; rest = [] }; read = refl }

one_more : (h : HashFunction) (terms : KeyTerms) (most k place : ℕ) (p : Progress) (x : Step)
    (xs : List Step)
    → FitsStep x → is_allowed h terms p x ≡ true
    → AreRead h terms most (k + 1) (place + length (vector w32 (step_record x))) (with_step p x) xs
    → AreRead h terms (suc most) k place p (x ∷ xs)
unfolding all_exported_at
one_more h terms most k place p x xs fits allowed rest = record {
  end = rest.end;
  read =
      let following : Text = records_text (map step_record xs) in
      let one = exported_again h terms k place p (step_record x) following x (step_short x fits)
      (step_again x fits) allowed in
      let long : length (vector w32 (step_record x) ++ following) ≢ 0 = omega (
        arith,
        length-append (vector w32 (step_record x)) following,
        length-append (to_be_bytes w32 (length (step_record x))) (step_record x),
      ) in
      rw (ne_eqb (length (vector w32 (step_record x) ++ following)) 0 long, one, rest.read) refl;
}

steps_written : (h : HashFunction) (terms : KeyTerms) (most k place : ℕ) (p q : Progress)
    (steps : List Step)
    → AllByRecursion FitsStep steps → progress_by h terms p steps ≡ Some q
    → length (records_text (map step_record steps)) ≤ most → AreRead h terms most k place p steps
unfolding progress_by
steps_written h terms most k place p q [] fits is le = none_read h terms most k place p
steps_written h terms zero k place p q (x ∷ xs) fits is le =
    absurd (omega (
      arith,
      length-append (vector w32 (step_record x)) (records_text (map step_record xs)),
      length-append (to_be_bytes w32 (length (step_record x))) (step_record x),
    ))
steps_written h terms (suc most) k place p q (x ∷ xs) fits is le =
    let made = then_some (λ (r : Progress). progress_by h terms r xs)
    (if is_allowed h terms p x then Some (with_step p x) else None) q is in
    let test = when_some (is_allowed h terms p x) (Some (with_step p x)) made.0 made.1 in
    let less : length (records_text (map step_record xs)) ≤ most = omega (
      arith,
      length-append (vector w32 (step_record x)) (records_text (map step_record xs)),
      length-append (to_be_bytes w32 (length (step_record x))) (step_record x),
    ) in
    let next : progress_by h terms (with_step p x) xs ≡ Some q =
    ap (λ (r : Progress). progress_by h terms r xs)
    (same_Some (with_step p x) made.0 test.1) ∙ made.2 in
    one_more h terms most k place p x xs fits.0 test.0
    (steps_written h terms most (k + 1) (place + length (vector w32 (step_record x)))
    (with_step p x) q xs fits.1 next less)

-- ---- the whole

pub export_written : (h : HashFunction) (e : Export) → IsExport h e
    → export_in h (exported_text e) ≡ Ok (Some e)
unfolding export_in steps_left
export_written h e is =
    let made = then_some (λ (t : KeyTerms). progress_by h t (first_progress h) e.steps)
    (signing_terms e.public) is.progress is.valid in
    let terms : KeyTerms = made.0 in
    let text : Text = records_text (map step_record e.steps) in
    let sixty = key_size e.public terms made.1 in
    let short : length e.public < 2 ^ 16 = omega arith in
    let prefix = prefix_again e.cosigner e.log e.public text terms is.cosigner is.log short made.1
    in
    let rest = steps_written h terms (length text) 1 prefix.0 (first_progress h) is.progress e.steps
    is.fits made.2 (omega arith) in
    let long : length (prefix_text e.cosigner e.log e.public ++ text) ≢ 0 = omega (
      arith,
      length-append (prefix_text e.cosigner e.log e.public) text,
      length-append (vector w8 e.cosigner) (vector w8 e.log ++ vector w16 e.public),
      length-append (to_be_bytes w8 (length e.cosigner)) e.cosigner,
    ) in
    rw (ne_eqb (length (prefix_text e.cosigner e.log e.public ++ text)) 0 long, prefix.1, rest.read)
    refl
