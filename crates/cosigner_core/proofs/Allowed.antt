-- What a request that is not refused makes of the records.
use Rattle.std.proofs.Common.{◌≡◌, ℕ, ◌<◌, ◌==◌, ◌&&◌, nat_le, nat_lt, not, Bool, true, false}
use Rattle.std.proofs.Common.{List, []}
use Rattle.std.proofs.Common.{◌∷◌, ◌++◌, Option, Some, None, IfSome, option_and_then, Ok, IsTrue}
use Rattle.std.proofs.Common.{refl, sym, ap}
use Rattle.std.proofs.Common.{◌∙◌, subst}
use Rattle.std.specs.Prelude.{if◌then◌else◌, is_some}
use Rattle.std.proofs.lemmas.Bool.{and_parts, eq-eqb, leb-false, lt-ltb, ltb-true, not-false}
use Rattle.std.specs.Str.{bytes_eq}
use Rattle.byte_formats.specs.Types.{HashFunction, Text}
use Rattle.byte_formats.specs.Refusals.{answer_of}
use Rattle.byte_formats.proofs.Values.{when_some}
use Rattle.tree_core.specs.Subtree.{is_subtree}
use Rattle.tree_proofs.specs.Checkpoints.{has_subtree, is_prefix_of}
use Rattle.cosigner_core.specs.Folds.{CosignerState, after_step, cosigner_of, having_signed}
use Rattle.cosigner_core.specs.Folds.{holding, key_count, next_state, progress_of, terms_by}
use Rattle.cosigner_core.specs.Progress.{keys_by}
use Rattle.cosigner_core.specs.Records.{FitsStep, advance_record, sign_record, step_in}
use Rattle.cosigner_core.specs.Records.{step_record}
use Rattle.cosigner_core.specs.declared.step.Step.{Step}
use Rattle.cosigner_core.specs.declared.step.Step.TheVariants.{Advance, Sign}
use Rattle.cosigner_core.specs.Refusals.{advance_refusal, earlier}
use Rattle.cosigner_core.specs.Refusals.{subtree_refusal}
use Rattle.cosigner_core.specs.Requests.{AdvanceParts, SubtreeParts}
use Rattle.cosigner_core.specs.declared.error.CosignError.{CosignError}
use Rattle.cosigner_core.proofs.Adds.{none_of}
use Rattle.cosigner_core.proofs.Encoded.{step_added, step_again}
use Rattle.cosigner_core.proofs.Brought.{keys_agree}

-- a test that doesn't refuse leaves the answer to the next one
pub passed : {E : Type 0} (b : Bool) (why : E) (o : Option E)
    → (if b then Some why else o) ≡ None → (b ≡ false) × (o ≡ None)
passed true why o is = let wrong : Some why ≡ None = is in cc
passed false why o is = (refl, is)

-- where neither of two refuses, the first doesn't
pub none_first : {E : Type 0} (one two : Option E) → earlier one two ≡ None → one ≡ None
none_first None two is = refl
none_first (Some why) two is = is

pub advance_allowed : (h : HashFunction) (s : CosignerState) (r : AdvanceParts)
    → advance_refusal h s r ≡ None
    → after_step h s (Advance r.size r.root r.proof) ≡ Some (holding r.size r.root s)
unfolding advance_refusal
advance_allowed h s r is =
    let named = passed (not (bytes_eq r.log s.log)) _ _ is in
    let newer = passed (nat_le r.size s.held.size) _ _ named.1 in
    let shown = passed (not (is_prefix_of h s.held r.size r.root r.proof)) _ _ newer.1 in
    rw (
      lt-ltb s.held.size r.size (leb-false r.size s.held.size newer.0),
      not-false (is_prefix_of h s.held r.size r.root r.proof) shown.0,
    ) refl

pub sign_allowed : (h : HashFunction) (s : CosignerState) (r : SubtreeParts)
    → subtree_refusal h s r ≡ None
    → after_step h s (Sign s.key.next r.start r.end r.hash r.proof) ≡ Some (having_signed s)
unfolding subtree_refusal
sign_allowed h s r is =
    let named = passed (not (bytes_eq r.log s.log)) _ _ is in
    let whole = passed (not (is_subtree r.start r.end)) _ _ named.1 in
    let within = passed (nat_lt s.held.size r.end) _ _ whole.1 in
    let shown = passed (not (has_subtree h s.held r.start r.end r.hash r.proof)) _ _ within.1 in
    let left = passed (not (nat_lt s.key.next (key_count s))) _ _ shown.1 in
    let there : nat_lt s.key.next (keys_by (terms_by s) (progress_of s)) ≡ true =
    ap (λ (n : ℕ). nat_lt s.key.next n) (keys_agree s)
    ∙ not-false (nat_lt s.key.next (key_count s)) left.0 in
    rw (
      eq-eqb s.key.next s.key.next refl,
      there,
      not-false (has_subtree h s.held r.start r.end r.hash r.proof) shown.0,
    ) refl

-- A request that is not refused leaves a one-time key to sign with.
pub key_left : (h : HashFunction) (s : CosignerState) (r : SubtreeParts)
    → subtree_refusal h s r ≡ None → s.key.next < key_count s
key_left h s r is =
    let keys = keys_by (terms_by s) (progress_of s) in
    let shown = nat_lt s.key.next keys && has_subtree h s.held r.start r.end r.hash r.proof in
    let made = when_some ((s.key.next == s.key.next) && shown) (Some (having_signed s))
    (having_signed s) (sign_allowed h s r is) in
    let counts = and_parts (s.key.next == s.key.next) shown made.0 in
    subst (λ (n : ℕ). s.key.next < n) (keys_agree s) (ltb-true s.key.next keys
    (and_parts (nat_lt s.key.next keys) (has_subtree h s.held r.start r.end r.hash r.proof)
    counts.1).0)

-- the record of a step that is allowed makes the next cosigner
module _ (h : HashFunction) (s t : CosignerState) (step : Step) (fits : FitsStep step)
    (first : Option CosignError) (next : first ≡ None → after_step h s step ≡ Some t) where
  taken : (body : Text) → body ≡ step_record step → Ok tt ≡ answer_of first
      → next_state h s body ≡ Some t
  unfolding next_state
  taken body written passes =
      ap (λ (b : Text). option_and_then (after_step h s) (step_in b)) written
      ∙ ap (option_and_then (after_step h s)) (step_again step fits)
      ∙ next (none_of first passes)

  -- so it does after the records of the old one
  valid : (old : Option (List Text)) (refused : Option CosignError)
      → IfSome old (λ list. cosigner_of h list ≡ Ok s) → earlier first refused ≡ None
      → IfSome old (λ list. cosigner_of h (list ++ step_record step ∷ []) ≡ Ok t)
  valid None refused was is = tt
  valid (Some list) refused was is =
      step_added h list s step t was fits (next (none_first first refused is))

module _ (h : HashFunction) (s : CosignerState) (r : AdvanceParts)
    (fits : FitsStep (Advance r.size r.root r.proof)) where
  pub advance_taken : (body : Text) → body ≡ advance_record r.size r.root r.proof
      → Ok tt ≡ answer_of (advance_refusal h s r)
      → next_state h s body ≡ Some (holding r.size r.root s)
  advance_taken = taken h s (holding r.size r.root s) (Advance r.size r.root r.proof) fits
      (advance_refusal h s r) (advance_allowed h s r)

  pub advance_valid : (old : Option (List Text)) (refused : Option CosignError)
      → IfSome old (λ list. cosigner_of h list ≡ Ok s)
      → earlier (advance_refusal h s r) refused ≡ None
      → IfSome old (λ list. cosigner_of h (list ++ advance_record r.size r.root r.proof ∷ [])
      ≡ Ok (holding r.size r.root s))
  advance_valid = valid h s (holding r.size r.root s) (Advance r.size r.root r.proof) fits
      (advance_refusal h s r) (advance_allowed h s r)

module _ (h : HashFunction) (s : CosignerState) (r : SubtreeParts)
    (fits : FitsStep (Sign s.key.next r.start r.end r.hash r.proof)) where
  pub sign_taken : (body : Text) → body ≡ sign_record s.key.next r.start r.end r.hash r.proof
      → Ok tt ≡ answer_of (subtree_refusal h s r)
      → next_state h s body ≡ Some (having_signed s)
  sign_taken = taken h s (having_signed s) (Sign s.key.next r.start r.end r.hash r.proof) fits
      (subtree_refusal h s r) (sign_allowed h s r)

  pub sign_valid : (old : Option (List Text)) (refused : Option CosignError)
      → IfSome old (λ list. cosigner_of h list ≡ Ok s)
      → earlier (subtree_refusal h s r) refused ≡ None
      → IfSome old (λ list. cosigner_of h
      (list ++ sign_record s.key.next r.start r.end r.hash r.proof ∷ []) ≡ Ok (having_signed s))
  sign_valid = valid h s (having_signed s) (Sign s.key.next r.start r.end r.hash r.proof) fits
      (subtree_refusal h s r) (sign_allowed h s r)

-- a record that makes a cosigner is allowed
pub is_allowed : (o : Option CosignerState) (t : CosignerState) → o ≡ Some t
    → IsTrue (is_some o)
is_allowed o t is = subst (λ (p : Option CosignerState). IsTrue (is_some p)) (sym is) refl
