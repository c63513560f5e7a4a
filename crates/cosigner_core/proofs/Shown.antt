-- What an export shows of a cosigner's key: not the height of its lower trees, which the first of
-- them shows. Each step that the key allows is allowed by what is shown.
use Rattle.std.proofs.Common.{◌≡◌, ℕ, ◌^◌, ◌==◌, ◌&&◌, nat_lt, true, Option, Some, None, refl}
use Rattle.std.proofs.Common.{ap, sym, ◌∙◌}
use Rattle.std.proofs.lemmas.Bool.{and_parts}
use Rattle.byte_formats.specs.Types.{HashFunction}
use Rattle.tree_proofs.specs.Checkpoints.{has_subtree}
use Rattle.lms_core.specs.Heights.{height}
use Rattle.lms_core.specs.declared.heights.LmsType.{LmsType}
use Rattle.cosigner_core.specs.Folds.{CosignerState}
use Rattle.cosigner_core.specs.Progress.{is_allowed, fits_height, keys_below, keys_by, takes_child}
use Rattle.cosigner_core.specs.Progress.{terms_of}
use Rattle.cosigner_core.specs.declared.progress.Progress.{Progress}
use Rattle.cosigner_core.specs.declared.step.Step.{Step}
use Rattle.cosigner_core.specs.declared.step.Step.TheVariants.{Advance, Child, Sign}
use Rattle.cosigner_core.specs.declared.terms.KeyTerms.{KeyTerms}
use Rattle.cosigner_core.specs.declared.terms.KeyTerms.TheVariants.{OneLevel, TwoLevels}

abbrev pub shown_terms : LmsType → Option LmsType → KeyTerms
shown_terms lms None = OneLevel lms
shown_terms lms (Some low) = TwoLevels lms None

-- the terms that the public key of a cosigner shows
abbrev pub shown_by : CosignerState → KeyTerms
shown_by s = shown_terms s.key.key.top.lms s.key.key.low

same_keys : (lms : LmsType) (low : Option LmsType) (p : Progress)
    → keys_by (terms_of lms low) p ≡ keys_by (shown_terms lms low) p
same_keys lms None p = refl
same_keys lms (Some low) p = refl

child_shown : (top : LmsType) (known : Option LmsType) (p : Progress) (child : ℕ) (low : LmsType)
    → takes_child (terms_of top known) p child low ≡ true
    → takes_child (shown_terms top known) p child low ≡ true
child_shown top None p child low is = is
child_shown top (Some l) p child low is =
    let keys = keys_below p.low p.children in
    let heights = fits_height (Some l) low && fits_height p.low low in
    let one = and_parts (child == p.children) (nat_lt child (2 ^ height top)
    && ((p.next == keys) && heights)) is in
    let two = and_parts (nat_lt child (2 ^ height top)) ((p.next == keys) && heights) one.1 in
    let three = and_parts (p.next == keys) heights two.1 in
    let four = and_parts (fits_height (Some l) low) (fits_height p.low low) three.1 in
    rw (one.0, two.0, three.0, four.1) refl

pub allowed_shown : (h : HashFunction) (lms : LmsType) (low : Option LmsType) (p : Progress)
    (step : Step) → is_allowed h (terms_of lms low) p step ≡ true
    → is_allowed h (shown_terms lms low) p step ≡ true
allowed_shown h lms low p (Advance size root proof) is = is
allowed_shown h lms low p (Sign index start end hash proof) is =
    ap (λ (n : ℕ). (index == p.next) && (nat_lt index n
    && has_subtree h p.held start end hash proof)) (sym (same_keys lms low p)) ∙ is
allowed_shown h lms low p (Child child l) is = child_shown lms low p child l is
