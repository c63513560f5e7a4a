-- What a cosigner exports is read as the steps of its journal.
use Rattle.std.proofs.Common.{◌≡◌, ◌≢◌, ℕ, zero, suc, ◌+◌, ◌^◌, ◌<◌, ◌≤◌, true, List, [], ◌∷◌, ◌++◌}
use Rattle.std.proofs.Common.{length, Option, Some, None, Ok, Err, refl, sym, ap, ◌∙◌, take}
use Rattle.std.proofs.Common.{subst, append_assoc, arith, ne_eqb, drop}
use Rattle.std.proofs.lemmas.Option.{same_Some}
use Rattle.std.specs.Prelude.{option_and_then, option_map}
use Rattle.std.specs.Int.{w8, w16, w32, to_be_bytes}
use Rattle.std.specs.List.{AllByRecursion}
use Rattle.std.proofs.lemmas.Bool.{le-leb}
use Rattle.std.proofs.lemmas.List.{length-append, length-take-le}
use Rattle.byte_formats.specs.Types.{HashFunction, Text}
use Rattle.byte_formats.specs.Offsets.{At, IsBytes, at}
use Rattle.byte_formats.specs.Readings.{some_or}
use Rattle.byte_formats.proofs.Steps.{IsBytes-drop, IsBytes-take, bind_ok, ok_is, some_or_ok}
use Rattle.byte_formats.proofs.Values.{then_some, when_some}
use Rattle.journal_core.specs.Folds.{state_after, taken_from}
use Rattle.journal_core.specs.Format.{AreRecordsAt, IsRecordAt, Represents}
use Rattle.lmots_core.specs.Strings.{u32_at}
use Rattle.lms_core.specs.Heights.{height}
use Rattle.lms_core.specs.Trees.{lms_public}
use Rattle.lms_core.specs.declared.heights.LmsType.{LmsType}
use Rattle.lms_core.specs.declared.private_key.PrivateKey.{PrivateKey}
use Rattle.lms_core.proofs.Verifies.{key_types-lms_public, length-lms_public}
use Rattle.hss_core.specs.Hss.{hss_key_types, one_level_public}
use Rattle.tls_wire.specs.Arcs.{IsAnchorId}
use Rattle.tls_wire.specs.Encoding.{vector}
use Rattle.tls_wire.proofs.AnchorForm.{anchor_again}
use Rattle.tls_wire.proofs.Numbers.{wide8, wide16, wide32}
use Rattle.tls_wire.proofs.Vectors.{vector_form}
use Rattle.cosigner_core.specs.ExportReading.{all_exported_at, export_prefix_at, export_id_at}
use Rattle.cosigner_core.specs.ExportReading.{export_in, export_key_at, export_of, exported_at}
use Rattle.cosigner_core.specs.ExportReading.{export_progress, signing_terms, steps_left}
use Rattle.cosigner_core.specs.Exports.{export_text, prefix_text, records_text}
use Rattle.cosigner_core.specs.Folds.{CosignerState, after_step, begun_cosigner, cosigner_fold}
use Rattle.cosigner_core.specs.Folds.{cosigner_of}
use Rattle.cosigner_core.specs.Folds.{new_cosigner, next_state, progress_of, terms_by}
use Rattle.cosigner_core.specs.Folds.{with_progress}
use Rattle.cosigner_core.specs.Progress.{first_progress, is_allowed, progress_by, steps_in}
use Rattle.cosigner_core.specs.Progress.{with_step}
use Rattle.cosigner_core.specs.Records.{cosigner_in, step_in}
use Rattle.cosigner_core.specs.declared.progress.Progress.{Progress}
use Rattle.cosigner_core.specs.declared.settings.CosignerSettings.{CosignerSettings}
use Rattle.cosigner_core.specs.declared.step.Step.{Step}
use Rattle.cosigner_core.specs.declared.terms.KeyTerms.{KeyTerms}
use Rattle.cosigner_core.proofs.FirstRecords.{cosigner_takes}
use Rattle.cosigner_core.proofs.Brought.{comes_to}
use Rattle.cosigner_core.proofs.Shown.{allowed_shown, shown_by, shown_terms}
use Rattle.hss_keys.specs.Keys.{SigningKey, public_of, public_with}

-- ---- the records

pub exported_again : (h : HashFunction) (terms : KeyTerms) (k place : ℕ) (p : Progress)
    (body rest : Text)
    (x : Step)
    → length body < 2 ^ 32 → step_in body ≡ Some x → is_allowed h terms p x ≡ true
    → exported_at h terms k p (record { place = place; rest = vector w32 body ++ rest })
    ≡ Ok (x, record { place = place + length (vector w32 body); rest = rest })
unfolding exported_at
exported_again h terms k place p body rest x short said fits =
    let one = (vector_form w32 (2 ^ 32) wide32).again body place rest short tt in
    rw (one, said, fits) refl

-- The records of a cosigner, from one of its states to a later one, are read as their steps.
record IsAgain (h : HashFunction) (s t : CosignerState) (bodies : List Text)
    (most k place : ℕ) : Type 0 where
  pub steps : List Step
  pub said : steps_in bodies ≡ Some steps
  pub end : At
  pub read : all_exported_at h (shown_by s) most k (progress_of s)
      (record { place = place; rest = records_text bodies }) ≡ Ok (steps, end)
  pub comes : progress_by h (shown_by s) (progress_of s) steps ≡ Some (progress_of t)
  pub id : t.id ≡ s.id
  pub log : t.log ≡ s.log
  pub key : t.key.key ≡ s.key.key

abbrev AreShort : List Text → Type 0
AreShort = AllByRecursion (λ body. length body < 2 ^ 32)

again_none : (h : HashFunction) (s t : CosignerState) (most k place : ℕ) → s ≡ t
    → IsAgain h s t [] most k place
unfolding all_exported_at steps_in progress_by
again_none h s t zero k place same = record {
  steps = [];
  said = refl;
  end = record { place = place; rest = [] };
  read = refl;
  comes = ap (λ (u : CosignerState). Some (progress_of u)) same;
  id = ap (λ (u : CosignerState). u.id) (sym same);
  log = ap (λ (u : CosignerState). u.log) (sym same);
  key = ap (λ (u : CosignerState). u.key.key) (sym same);
}
again_none h s t (suc most) k place same = record {
  steps = [];
  said = refl;
  end = record { place = place; rest = [] };
  read = refl;
  comes = ap (λ (u : CosignerState). Some (progress_of u)) same;
  id = ap (λ (u : CosignerState). u.id) (sym same);
  log = ap (λ (u : CosignerState). u.log) (sym same);
  key = ap (λ (u : CosignerState). u.key.key) (sym same);
}

again_more : (h : HashFunction) (s t : CosignerState) (most k place : ℕ) (body : Text)
    (bodies : List Text) (x : Step) → length body < 2 ^ 32 → step_in body ≡ Some x
    → is_allowed h (terms_by s) (progress_of s) x ≡ true
    → IsAgain h (with_progress s (with_step (progress_of s) x)) t bodies most (k + 1)
    (place + length (vector w32 body))
    → IsAgain h s t (body ∷ bodies) (suc most) k place
unfolding all_exported_at steps_in progress_by
again_more h s t most k place body bodies x short said fits rest = record {
  steps = x ∷ rest.steps;
  said = rw (said, rest.said) refl;
  end = rest.end;
  read =
      let one = exported_again h (shown_by s) k place (progress_of s) body (records_text bodies) x
      short said shown in
      let long : length (vector w32 body ++ records_text bodies) ≢ 0 = omega (
        arith,
        length-append (vector w32 body) (records_text bodies),
        length-append (to_be_bytes w32 (length body)) body,
      ) in
      let next : At =
      record { place = place + length (vector w32 body); rest = records_text bodies } in
      let more = subst (λ (p : Progress). all_exported_at h (shown_by s) most (k + 1) p next
      ≡ Ok (rest.steps, rest.end)) (comes_to h s x fits) rest.read in
      rw (ne_eqb (length (vector w32 body ++ records_text bodies)) 0 long, one, more) refl;
  comes =
      let more = subst (λ (p : Progress). progress_by h (shown_by s) p rest.steps
      ≡ Some (progress_of t)) (comes_to h s x fits) rest.comes in
      rw shown more;
  id = rest.id;
  log = rest.log;
  key = rest.key;
}
  where
    shown : is_allowed h (shown_by s) (progress_of s) x ≡ true
    shown = allowed_shown h s.key.key.top.lms s.key.key.low (progress_of s) x fits

steps_again : (h : HashFunction) (s t : CosignerState) (n most k place : ℕ) (bodies : List Text)
    → AreShort bodies → taken_from (cosigner_fold h) n s bodies ≡ Ok t
    → length (records_text bodies) ≤ most → IsAgain h s t bodies most k place
unfolding taken_from next_state
steps_again h s t n most k place [] short is le =
    again_none h s t most k place (ok_is ℕ s t is)
steps_again h s t n zero k place (body ∷ bodies) short is le =
    absurd (omega (
      arith,
      length-append (vector w32 body) (records_text bodies),
      length-append (to_be_bytes w32 (length body)) body,
    ))
steps_again h s t n (suc most) k place (body ∷ bodies) short is le =
    let step = bind_ok (some_or n (next_state h s body))
    (λ (u : CosignerState). taken_from (cosigner_fold h) (n + 1) u bodies) t is in
    let said = then_some (after_step h s) (step_in body) step.0
    (some_or_ok n (next_state h s body) step.0 step.1) in
    let next : CosignerState = with_progress s (with_step (progress_of s) said.0) in
    let made = when_some (is_allowed h (terms_by s) (progress_of s) said.0) (Some next) step.0
    said.2 in
    let less : length (records_text bodies) ≤ most = omega (
      arith,
      length-append (vector w32 body) (records_text bodies),
      length-append (to_be_bytes w32 (length body)) body,
    ) in
    let rest = steps_again h step.0 t (n + 1) most (k + 1) (place + length (vector w32 body)) bodies
    short.1 step.2 less in
    again_more h s t most k place body bodies said.0 short.0 said.1 made.0
    (subst (λ (u : CosignerState). IsAgain h u t bodies most (k + 1)
    (place + length (vector w32 body))) (sym (same_Some next step.0 made.1)) rest)

-- ---- the prefix

id_again : (place : ℕ) (id rest : Text) → IsAnchorId id
    → export_id_at (record { place = place; rest = vector w8 id ++ rest })
    ≡ Ok (id, record { place = place + length (vector w8 id); rest = rest })
unfolding export_id_at
id_again place id rest fits =
    let short : length id < 2 ^ 8 = let most = fits.short in omega arith in
    let one = (vector_form w8 (2 ^ 8) wide8).again id place rest short tt in
    rw (one, anchor_again id fits) refl

key_again : (place : ℕ) (terms : KeyTerms) (key rest : Text) → length key < 2 ^ 16
    → signing_terms key ≡ Some terms
    → export_key_at (record { place = place; rest = vector w16 key ++ rest })
    ≡ Ok ((key, terms), record { place = place + length (vector w16 key); rest = rest })
unfolding export_key_at
key_again place terms key rest short is =
    let one = (vector_form w16 (2 ^ 16) wide16).again key place rest short tt in
    rw (one, is) refl

pub prefix_again : (id log key rest : Text) (terms : KeyTerms) → IsAnchorId id → IsAnchorId log
    → length key < 2 ^ 16 → signing_terms key ≡ Some terms
    → (place : ℕ) × (export_prefix_at (at (prefix_text id log key ++ rest) 0)
    ≡ Ok ((id, (log, (key, terms))), record { place = place; rest = rest }))
unfolding export_prefix_at
prefix_again id log key rest terms fits other short is =
    let grouped : prefix_text id log key ++ rest
    ≡ vector w8 id ++ (vector w8 log ++ (vector w16 key ++ rest)) =
    append_assoc (vector w8 id) (vector w8 log ++ vector w16 key) rest
    ∙ ap (λ (t : Text). vector w8 id ++ t) (append_assoc (vector w8 log) (vector w16 key) rest) in
    let one = id_again 0 id (vector w8 log ++ (vector w16 key ++ rest)) fits in
    let two = id_again (0 + length (vector w8 id)) log (vector w16 key ++ rest) other in
    let three = key_again (0 + length (vector w8 id) + length (vector w8 log)) terms key rest short
    is in (
      0 + length (vector w8 id) + length (vector w8 log) + length (vector w16 key),
      ap (λ (t : Text). export_prefix_at (record { place = 0; rest = t })) grouped
          ∙ rw (one, two, three) refl,
    )

public_keys : (k : PrivateKey) (low : Option LmsType) → length k.id ≡ 16 → height k.lms ≤ 10
    → signing_terms (public_with k low) ≡ Some (shown_terms k.lms low)
unfolding signing_terms hss_key_types one_level_public u32_at
public_keys k None size small =
    let all : length (to_be_bytes w32 1 ++ lms_public k) ≡ 60 =
    omega (arith, length-append (to_be_bytes w32 1) (lms_public k), length-lms_public k size) in
    rw (all, key_types-lms_public k size, le-leb (height k.lms) 10 small) refl
public_keys k (Some low) size small =
    let all : length (to_be_bytes w32 2 ++ lms_public k) ≡ 60 =
    omega (arith, length-append (to_be_bytes w32 2) (lms_public k), length-lms_public k size) in
    rw (all, key_types-lms_public k size, le-leb (height k.lms) 10 small) refl

public_size : (k : PrivateKey) (low : Option LmsType) → length k.id ≡ 16
    → length (public_with k low) ≡ 60
unfolding one_level_public
public_size k None size =
    omega (arith, length-append (to_be_bytes w32 1) (lms_public k), length-lms_public k size)
public_size k (Some low) size =
    omega (arith, length-append (to_be_bytes w32 2) (lms_public k), length-lms_public k size)

-- ---- the whole

body_bytes : (bytes body : Text) (place : ℕ) → IsBytes bytes → IsRecordAt bytes place body
    → IsBytes body
body_bytes bytes body place are is =
    subst IsBytes is.body_is
    (IsBytes-take (length body) (drop (place + 5) bytes) (IsBytes-drop (place + 5) bytes are))

are_short : (bytes : Text) (place : ℕ) (bodies : List Text) → AreRecordsAt bytes place bodies
    → AreShort bodies
are_short bytes place [] there = tt
are_short bytes place (body ∷ bodies) there =
    let few = there.0.few in
    (omega arith, are_short bytes (place + 5 + length body) bodies there.1)

read_whole : (h : HashFunction) (s u : CosignerState) (bodies : List Text)
    → IsAnchorId u.id → IsAnchorId u.log
    → signing_terms (public_of u.key.key) ≡ Some (shown_by u)
    → length (public_of u.key.key) ≡ 60
    → progress_of u ≡ first_progress h
    → ((place : ℕ) → IsAgain h u s bodies (length (records_text bodies)) 1 place)
    → (steps : List Step) × (steps_in bodies ≡ Some steps)
    × (export_in h (prefix_text s.id s.log (public_of s.key.key) ++ records_text bodies)
    ≡ Ok (Some (export_of s steps)))
    × (export_progress h (export_of s steps) ≡ Some (progress_of s))
unfolding export_in steps_left
read_whole h s u bodies id log known size begins again =
    let there = again 0 in
    let public : Text = public_of s.key.key in
    let own : IsAnchorId s.id = subst IsAnchorId (sym there.id) id in
    let other : IsAnchorId s.log = subst IsAnchorId (sym there.log) log in
    let terms : signing_terms public ≡ Some (shown_by u) =
    ap (λ (k : SigningKey). signing_terms (public_of k)) there.key ∙ known in
    let short : length public < 2 ^ 16 =
    let sixty : length public ≡ 60 =
    ap (λ (k : SigningKey). length (public_of k)) there.key ∙ size in
    omega arith in
    let text : Text = records_text bodies in
    let prefix = prefix_again s.id s.log public text (shown_by u) own other short terms in
    let here = again prefix.0 in
    let read : all_exported_at h (shown_by u) (length text) 1 (first_progress h)
    (record { place = prefix.0; rest = text }) ≡ Ok (here.steps, here.end) =
    ap (λ (p : Progress). all_exported_at h (shown_by u) (length text) 1 p
    (record { place = prefix.0; rest = text })) (sym begins) ∙ here.read in
    let long : length (prefix_text s.id s.log public ++ text) ≢ 0 = omega (
      arith,
      length-append (prefix_text s.id s.log public) text,
      length-append (vector w8 s.id) (vector w8 s.log ++ vector w16 public),
      length-append (to_be_bytes w8 (length s.id)) s.id,
    ) in (
      here.steps,
      here.said,
      rw (ne_eqb (length (prefix_text s.id s.log public ++ text)) 0 long, prefix.1, read) refl,
      ap (option_and_then (λ (t : KeyTerms). progress_by h t (first_progress h) here.steps)) terms
          ∙ ap (λ (p : Progress). progress_by h (shown_by u) p here.steps) (sym begins)
          ∙ here.comes,
    )

pub export_again : (h : HashFunction) (bytes : Text) (list : List Text) (s : CosignerState)
    → IsBytes bytes → Represents bytes list → cosigner_of h list ≡ Ok s
    → (steps : List Step) × (steps_in (drop 1 list) ≡ Some steps)
    × (export_in h (export_text s list) ≡ Ok (Some (export_of s steps)))
    × (export_progress h (export_of s steps) ≡ Some (progress_of s))
unfolding state_after begun_cosigner
export_again h bytes [] s are stands is =
    let wrong : Err 0 ≡ Ok s = is in absurd cc
export_again h bytes (first ∷ bodies) s are stands is =
    let step = bind_ok (some_or 0 (begun_cosigner h first))
    (λ (u : CosignerState). taken_from (cosigner_fold h) 1 u bodies) s is in
    go (cosigner_in first) refl step.0 (some_or_ok 0 (begun_cosigner h first) step.0 step.1) step.2
  where
    go : (o : Option (CosignerSettings × Text)) → cosigner_in first ≡ o → (u : CosignerState)
        → option_map (λ x. new_cosigner h x.0 x.1) o ≡ Some u
        → taken_from (cosigner_fold h) 1 u bodies ≡ Ok s
        → (steps : List Step) × (steps_in bodies ≡ Some steps)
        × (export_in h (prefix_text s.id s.log (public_of s.key.key) ++ records_text bodies)
        ≡ Ok (Some (export_of s steps)))
        × (export_progress h (export_of s steps) ≡ Some (progress_of s))
    go None was u made rest = let wrong : None ≡ Some u = made in absurd cc
    go (Some x) was u made rest =
        let fits = (cosigner_takes first x.0 x.1 (body_bytes bytes first 16 are stands.holds.0)
        was).1 in
        let new : CosignerState = new_cosigner h x.0 x.1 in
        let same : new ≡ u = same_Some new u made in
        let size : length (take 16 x.1) ≡ 16 =
        let all = fits.sized in length-take-le 16 x.1 (omega arith) in
        let taken : taken_from (cosigner_fold h) 1 new bodies ≡ Ok s =
        subst (λ (v : CosignerState). taken_from (cosigner_fold h) 1 v bodies ≡ Ok s) (sym same)
        rest in
        let key = new.key.key in
        read_whole h s new bodies fits.id fits.log (public_keys key.top key.low size fits.small)
        (public_size key.top key.low size) refl
        (λ place. steps_again h new s 1 (length (records_text bodies)) 1 place bodies
        (are_short bytes (16 + 5 + length first) bodies stands.holds.1) taken (omega arith))
