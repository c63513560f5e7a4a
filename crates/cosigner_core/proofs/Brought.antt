-- How far a cosigner has come, and how many one-time keys it has then.
use Rattle.std.proofs.Common.{◌≡◌, ℕ, zero, suc, ◌+◌, ◌*◌, ◌^◌, ◌<◌, ◌==◌, ◌&&◌, nat_lt, true}
use Rattle.std.proofs.Common.{false, Option, Some, None, refl, sym, ap, ◌∙◌, subst, arith}
use Rattle.std.proofs.lemmas.Bool.{and_parts, eqb-true, ltb-true}
use Rattle.std.proofs.lemmas.Option.{same_Some}
use Rattle.byte_formats.specs.Types.{HashFunction}
use Rattle.tree_proofs.specs.declared.checkpoint.Checkpoint.{Checkpoint}
use Rattle.lms_core.specs.Heights.{height, lms_code, lms_type_of_code}
use Rattle.lms_core.specs.declared.heights.LmsType.{LmsType}
use Rattle.lms_core.specs.declared.heights.LmsType.TheVariants.{H5, H10, H15, H20, H25}
use Rattle.hss_keys.specs.Keys.{keys_there}
use Rattle.cosigner_core.specs.Folds.{CosignerState, key_count, progress_of, terms_by}
use Rattle.cosigner_core.specs.Folds.{with_progress}
use Rattle.cosigner_core.specs.Progress.{is_allowed, fits_height, keys_below, keys_by, shown_low}
use Rattle.cosigner_core.specs.Progress.{takes_child, terms_of, with_step}
use Rattle.cosigner_core.specs.declared.progress.Progress.{Progress}
use Rattle.cosigner_core.specs.declared.step.Step.{Step}
use Rattle.cosigner_core.specs.declared.step.Step.TheVariants.{Advance, Child, Sign}

-- the progress with these lower trees
abbrev pub having_trees : Checkpoint → ℕ → ℕ → Option LmsType → Progress
having_trees held next children low =
    record { held = held; next = next; children = children; low = shown_low children low }

-- so many lower trees have as many one-time keys as the first of them shows
pub keys_shown : (low : LmsType) (children : ℕ)
    → keys_below (shown_low children (Some low)) children ≡ children * 2 ^ height low
keys_shown low zero = omega arith
keys_shown low (suc children) = refl

keys_same : (lms : LmsType) (low : Option LmsType) (held : Checkpoint) (next children : ℕ)
    → keys_by (terms_of lms low) (having_trees held next children low)
    ≡ keys_there lms low children
keys_same lms None held next children = refl
keys_same lms (Some low) held next children = keys_shown low children

-- There are as many one-time keys by the terms as by the counts.
pub keys_agree : (s : CosignerState) → keys_by (terms_by s) (progress_of s) ≡ key_count s
keys_agree s = keys_same s.key.key.top.lms s.key.key.low s.held s.key.next s.key.children

-- ---- lower trees

coded : (l : LmsType) → lms_type_of_code (lms_code l) ≡ Some l
coded H5 = refl
coded H10 = refl
coded H15 = refl
coded H20 = refl
coded H25 = refl

-- A typecode is that of one height.
pub same_height : (l m : LmsType) → lms_code l ≡ lms_code m → l ≡ m
same_height l m same = same_Some l m (sym (coded l) ∙ ap lms_type_of_code same ∙ coded m)

-- A height is itself.
pub height_is : (low : LmsType) → fits_height (Some low) low ≡ true
height_is H5 = refl
height_is H10 = refl
height_is H15 = refl
height_is H20 = refl
height_is H25 = refl

pub shown_is : (children : ℕ) (low : LmsType)
    → fits_height (shown_low children (Some low)) low ≡ true
shown_is zero low = refl
shown_is (suc children) low = height_is low

-- The height of the first lower tree is shown after it.
pub shown_more : (children : ℕ) (low : Option LmsType) → shown_low (children + 1) low ≡ low
shown_more children low =
    let next : children + 1 ≡ suc children = omega arith in
    ap (λ (n : ℕ). shown_low n low) next

-- what a key has that takes a lower tree
pub record TakesTree (top : LmsType) (known : Option LmsType) (next children child : ℕ)
    (low : LmsType) : Type 0 where
  pub number : child ≡ children
  pub few : children < 2 ^ height top
  pub used : next ≡ children * 2 ^ height low
  pub has : known ≡ Some low

takes_tree : (top : LmsType) (known : Option LmsType) (held : Checkpoint)
    (next children child : ℕ) (low : LmsType)
    → takes_child (terms_of top known) (having_trees held next children known) child low ≡ true
    → TakesTree top known next children child low
takes_tree top None held next children child low is = let wrong : false ≡ true = is in absurd cc
takes_tree top (Some l) held next children child low is =
    let keys = keys_below (shown_low children (Some l)) children in
    let heights = fits_height (Some l) low && fits_height (shown_low children (Some l)) low in
    let one = and_parts (child == children) (nat_lt child (2 ^ height top)
    && ((next == keys) && heights)) is in
    let two = and_parts (nat_lt child (2 ^ height top)) ((next == keys) && heights) one.1 in
    let three = and_parts (next == keys) heights two.1 in
    let four = and_parts (fits_height (Some l) low) (fits_height (shown_low children (Some l)) low)
    three.1 in
    let same : l ≡ low = same_height l low (eqb-true (lms_code l) (lms_code low) four.0) in
    let number : child ≡ children = eqb-true child children one.0 in
    record {
      number = number;
      few = subst (λ (n : ℕ). n < 2 ^ height top) number
          (ltb-true child (2 ^ height top) two.0);
      used = eqb-true next keys three.0 ∙ keys_shown l children
          ∙ ap (λ (m : LmsType). children * 2 ^ height m) same;
      has = ap Some same;
    }

-- What a cosigner has that takes a Child.
pub child_takes : (s : CosignerState) (child : ℕ) (low : LmsType)
    → takes_child (terms_by s) (progress_of s) child low ≡ true
    → TakesTree s.key.key.top.lms s.key.key.low s.key.next s.key.children child low
child_takes s child low is =
    takes_tree s.key.key.top.lms s.key.key.low s.held s.key.next s.key.children child low is

-- A step that is allowed brings a cosigner as far as its progress.
pub comes_to : (h : HashFunction) (s : CosignerState) (step : Step)
    → is_allowed h (terms_by s) (progress_of s) step ≡ true
    → progress_of (with_progress s (with_step (progress_of s) step))
    ≡ with_step (progress_of s) step
comes_to h s (Advance size root proof) is = refl
comes_to h s (Sign index start end hash proof) is = refl
comes_to h s (Child child low) is =
    ap (λ (o : Option LmsType). record {
      held = s.held;
      next = s.key.next;
      children = s.key.children + 1;
      low = o;
    }) (shown_more s.key.children s.key.key.low ∙ (child_takes s child low is).has)
