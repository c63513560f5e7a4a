-- What holds of a cosigner's key after each of its steps.
use Rattle.std.proofs.Common.{◌≡◌, ℕ, ◌+◌, ◌-◌, ◌*◌, ◌^◌, ◌<◌, ◌≤◌, ◌==◌, ◌&&◌, nat_lt}
use Rattle.std.proofs.Common.{true, List, Option, Some, IfSome, sym, ap, subst, arith}
use Rattle.std.proofs.lemmas.Bool.{and_parts, eqb-true, ltb-true}
use Rattle.byte_formats.specs.Types.{HashFunction}
use Rattle.tree_proofs.specs.Checkpoints.{has_subtree}
use Rattle.lms_core.specs.Heights.{IsSigningHeight, height}
use Rattle.lms_core.specs.declared.heights.LmsType.{LmsType}
use Rattle.hss_keys.specs.Keys.{CountsKeys}
use Rattle.byte_formats.specs.Types.{Text}
use Rattle.cosigner_core.specs.Folds.{CosignerState, key_count, progress_of, terms_by}
use Rattle.cosigner_core.specs.Folds.{with_progress}
use Rattle.cosigner_core.specs.Progress.{is_allowed, keys_by, with_step}
use Rattle.cosigner_core.specs.declared.step.Step.{Step}
use Rattle.cosigner_core.specs.declared.step.Step.TheVariants.{Advance, Child, Sign}
use Rattle.cosigner_core.proofs.Brought.{TakesTree, child_takes, keys_agree}

-- what a Sign that is allowed says of its number
pub record SignsNext (s : CosignerState) (index : ℕ) : Type 0 where
  pub next : index ≡ s.key.next
  pub there : index < key_count s

pub sign_is : (h : HashFunction) (s : CosignerState) (index start end : ℕ) (hash : Text)
    (proof : List Text)
    → is_allowed h (terms_by s) (progress_of s) (Sign index start end hash proof) ≡ true
    → SignsNext s index
sign_is h s index start end hash proof is =
    let keys = keys_by (terms_by s) (progress_of s) in
    let shown = has_subtree h s.held start end hash proof in
    let tests = and_parts (index == s.key.next) (nat_lt index keys && shown) is in
    let there = and_parts (nat_lt index keys) shown tests.1 in
    record {
      next = eqb-true index s.key.next tests.0;
      there = subst (λ (n : ℕ). index < n) (keys_agree s) (ltb-true index keys there.0);
    }

-- one lower tree more
more_keys : (low : LmsType) (children : ℕ)
    → children * 2 ^ height low ≤ (children + 1) * 2 ^ height low
more_keys low children = let n = 2 ^ height low in omega arith

one_more : (low : LmsType) (children : ℕ)
    → (children + 1 - 1) * 2 ^ height low ≡ children * 2 ^ height low
one_more low children =
    let same : children + 1 - 1 ≡ children = omega arith in
    ap (λ (n : ℕ). n * 2 ^ height low) same

-- A step that is allowed leaves a key that counts.
pub counts_after : (h : HashFunction) (s : CosignerState) (step : Step) → CountsKeys s.key
    → is_allowed h (terms_by s) (progress_of s) step ≡ true
    → CountsKeys (with_progress s (with_step (progress_of s) step)).key
counts_after h s (Advance size root proof) counts is = counts
counts_after h s (Sign index start end hash proof) counts is =
    let signs = sign_is h s index start end hash proof is in
    let from = counts.from in
    record {
      top = counts.top;
      low = counts.low;
      few = counts.few;
      from = omega arith;
      to = omega arith;
    }
counts_after h s (Child child low) counts is =
    go s.key.key.low takes.has counts.low
  where
    takes : TakesTree s.key.key.top.lms s.key.key.low s.key.next s.key.children child low
    takes = child_takes s child low is

    go : (known : Option LmsType) → known ≡ Some low → IfSome known IsSigningHeight
        → CountsKeys (record {
          key = record { top = s.key.key.top; low = known };
          children = s.key.children + 1;
          next = s.key.next;
        })
    go known is small =
        subst (λ (o : Option LmsType). IfSome o IsSigningHeight → CountsKeys (record {
          key = record { top = s.key.key.top; low = o };
          children = s.key.children + 1;
          next = s.key.next;
        })) (sym is) (λ (high : IsSigningHeight low).
        let few = takes.few in
        let used = takes.used in
        let more = more_keys low s.key.children in
        let same = one_more low s.key.children in
        record {
          top = counts.top;
          low = high;
          few = omega arith;
          from = omega arith;
          to = omega arith;
        }) small
