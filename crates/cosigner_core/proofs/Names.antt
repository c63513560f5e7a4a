-- A cosigner keeps the ids and the key of its first record, and these determine how long it is.
use Rattle.std.proofs.Common.{◌≡◌, ℕ, ◌+◌, List, [], ◌∷◌, length, Option, Some, None, Ok}
use Rattle.std.proofs.Common.{option_map, option_and_then, refl, sym, ap, ◌∙◌, arith}
use Rattle.std.proofs.lemmas.Option.{same_Some}
use Rattle.byte_formats.specs.Types.{HashFunction, Text}
use Rattle.byte_formats.specs.Offsets.{IsBytes}
use Rattle.byte_formats.specs.Readings.{some_or, ◌>>=◌}
use Rattle.byte_formats.proofs.Steps.{bind_ok, ok_is, some_or_ok}
use Rattle.byte_formats.proofs.Values.{then_some, when_some}
use Rattle.journal_core.specs.Folds.{state_after, taken_from}
use Rattle.hss_keys.specs.Keys.{SigningKey, signing_key}
use Rattle.cosigner_core.specs.Folds.{CosignerState, after_step, begun_cosigner, cosigner_fold}
use Rattle.cosigner_core.specs.Folds.{cosigner_of}
use Rattle.cosigner_core.specs.Folds.{new_cosigner, next_state, progress_of, terms_by}
use Rattle.cosigner_core.specs.Folds.{with_progress}
use Rattle.cosigner_core.specs.Progress.{is_allowed, with_step}
use Rattle.cosigner_core.specs.Records.{cosigner_in, first_record_length, low_length, step_in}
use Rattle.cosigner_core.specs.declared.settings.CosignerSettings.{CosignerSettings}
use Rattle.cosigner_core.specs.declared.step.Step.{Step}
use Rattle.cosigner_core.proofs.FirstRecords.{cosigner_takes}
use Rattle.cosigner_core.proofs.Encoded.{length-cosigner}

-- with what a cosigner began: its ids and its key
abbrev pub Began : Type 0
Began = Text × Text × SigningKey

abbrev pub began : CosignerState → Began
began s = (s.id, s.log, s.key.key)

step_keeps : (h : HashFunction) (s u : CosignerState) (said : Option Step)
    → option_and_then (after_step h s) said ≡ Some u → began u ≡ began s
step_keeps h s u said is =
    let step = then_some (after_step h s) said u is in
    let next = with_progress s (with_step (progress_of s) step.0) in
    let made = when_some (is_allowed h (terms_by s) (progress_of s) step.0) (Some next) u step.2
    in
    ap began (sym (same_Some next u made.1))

-- A cosigner keeps its ids and its key after each of its records.
pub same_cosigner : (h : HashFunction) (k : ℕ) (s t : CosignerState) (bodies : List Text)
    → taken_from (cosigner_fold h) k s bodies ≡ Ok t → began t ≡ began s
unfolding taken_from next_state
same_cosigner h k s t [] is = ap began (sym (ok_is ℕ s t is))
same_cosigner h k s t (body ∷ bodies) is =
    let step = bind_ok (some_or k (next_state h s body))
    (λ (u : CosignerState). taken_from (cosigner_fold h) (k + 1) u bodies) t is in
    same_cosigner h (k + 1) step.0 t bodies step.2
    ∙ step_keeps h s step.0 (step_in body) (some_or_ok k (next_state h s body) step.0 step.1)

-- They are those of its first record.
pub began_first : (h : HashFunction) (settings : CosignerSettings) (first secret : Text)
    (bodies : List Text) (s : CosignerState) → cosigner_in first ≡ Some (settings, secret)
    → cosigner_of h (first ∷ bodies) ≡ Ok s
    → began s
    ≡ (settings.id, settings.log, signing_key settings.lms settings.low settings.ots secret)
unfolding state_after begun_cosigner
began_first h settings first secret bodies s begins is =
    same_cosigner h 1 (new_cosigner h settings secret) s bodies
    (sym (ap (λ (o : Option (CosignerSettings × Text)). some_or 0 (option_map
    (λ (x : CosignerSettings × Text). new_cosigner h x.0 x.1) o)
    >>= λ (u : CosignerState). taken_from (cosigner_fold h) 1 u bodies) begins) ∙ is)

begun_long : (h : HashFunction) (first : Text) (s : CosignerState) → IsBytes first
    → begun_cosigner h first ≡ Some s
    → length first ≡ first_record_length s.id s.log s.key.key.low
unfolding begun_cosigner
begun_long h first s bytes is = go (cosigner_in first) refl is
  where
    go : (o : Option (CosignerSettings × Text)) → cosigner_in first ≡ o
        → option_map (λ x. new_cosigner h x.0 x.1) o ≡ Some s
        → length first ≡ first_record_length s.id s.log s.key.key.low
    go None read is = let wrong : None ≡ Some s = is in cc
    go (Some x) read is =
        let took = cosigner_takes first x.0 x.1 bytes read in
        let same = same_Some (new_cosigner h x.0 x.1) s is in
        let id : length x.0.id ≡ length s.id = ap (λ (v : CosignerState). length v.id) same in
        let log : length x.0.log ≡ length s.log = ap (λ (v : CosignerState). length v.log) same in
        let low : low_length x.0.low ≡ low_length s.key.key.low =
        ap (λ (v : CosignerState). low_length v.key.key.low) same in
        let long = ap length took.0 ∙ length-cosigner x.0 x.1 in
        let secret = took.1.sized in
        omega (arith, long, secret, id, log, low)

-- The first record is as long as its ids and its levels determine.
pub first-long : (h : HashFunction) (first : Text) (bodies : List Text) (s : CosignerState)
    → IsBytes first → cosigner_of h (first ∷ bodies) ≡ Ok s
    → length first ≡ first_record_length s.id s.log s.key.key.low
unfolding state_after
first-long h first bodies s bytes is =
    let step = bind_ok (some_or 0 (begun_cosigner h first))
    (λ (u : CosignerState). taken_from (cosigner_fold h) 1 u bodies) s is in
    let long = begun_long h first step.0 bytes
    (some_or_ok 0 (begun_cosigner h first) step.0 step.1) in
    let same = same_cosigner h 1 step.0 s bodies step.2 in
    let id = ap (λ (x : Began). length x.0) same in
    let log = ap (λ (x : Began). length x.1) same in
    let low = ap (λ (x : Began). low_length x.2.low) same in
    omega (arith, long, id, log, low)
