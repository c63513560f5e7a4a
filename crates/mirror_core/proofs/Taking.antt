-- Items that a mirror takes, one after the other, as they begin the bytes that are left.
use Rattle.std.proofs.Common.{◌≡◌, ℕ, ◌+◌, ◌^◌, ◌<◌, ◌≤◌, ◌&&◌, nat_lt, List, length, Bool}
use Rattle.std.proofs.Common.{true, false, Some, None, refl, ap, sym, ◌∙◌, arith}
use Rattle.std.specs.List.{list_all}
use Rattle.std.proofs.lemmas.Bool.{le-ltb, lt-ltb}
use Rattle.byte_formats.specs.Offsets.{IsBytes}
use Rattle.byte_formats.specs.Types.{HashFunction, Text}
use Rattle.issuance_log.specs.Batches.{leading_item, leading_items}
use Rattle.mirror_core.specs.Folds.{MirrorView, is_mirrorable, takes_mirrored}
use Rattle.issuance_log.proofs.Leading.{begins, leading_none, leading_on}

-- Whether all are of a mirror is whether those in the bytes that are left are.
pub record AreTested (h : HashFunction) (items rest : Text) : Type 0 where
  pub left : IsBytes rest
  pub tests : list_all (is_mirrorable h) (leading_items rest)
      ≡ list_all (is_mirrorable h) (leading_items items)

and_not : (b : Bool) → (b && false) ≡ false
and_not true = refl
and_not false = refl

-- a number of items that is too many
pub too_many : (h : HashFunction) (v : MirrorView) (items : List (Text × Text)) (count : ℕ)
    → count ≡ length items → 2 ^ 32 ≤ v.size + count → false ≡ takes_mirrored h v items
too_many h v items count same many =
    sym (ap (λ (b : Bool). b && list_all (is_mirrorable h) items)
    (le-ltb (v.size + length items) (2 ^ 32) (omega (arith, same, many))))

module _ (h : HashFunction) (items rest : Text) (so_far : AreTested h items rest) where
  module _ (x : Text × Text) (later : Text) (is : leading_item rest ≡ Some (x, later)) where
    on : list_all (is_mirrorable h) (leading_items rest)
        ≡ (is_mirrorable h x && list_all (is_mirrorable h) (leading_items later))
    on = ap (list_all (is_mirrorable h)) (leading_on rest x later so_far.left is)

    pub tested_on : is_mirrorable h x ≡ true → AreTested h items later
    tested_on takes = record {
      left = (begins rest x later so_far.left is).left;
      tests = sym (on ∙ ap (λ (b : Bool). b
          && list_all (is_mirrorable h) (leading_items later)) takes) ∙ so_far.tests;
    }

    pub tested_not : (v : MirrorView) → is_mirrorable h x ≡ false
        → takes_mirrored h v (leading_items items) ≡ false
    tested_not v takes =
        ap (λ (b : Bool). nat_lt (v.size + length (leading_items items)) (2 ^ 32) && b)
        (sym so_far.tests ∙ on ∙ ap (λ (b : Bool). b
        && list_all (is_mirrorable h) (leading_items later)) takes)
        ∙ and_not (nat_lt (v.size + length (leading_items items)) (2 ^ 32))

  pub tested_all : (v : MirrorView) → v.size + length (leading_items items) < 2 ^ 32
      → leading_item rest ≡ None → takes_mirrored h v (leading_items items) ≡ true
  tested_all v few none =
      ap (λ (b : Bool). b && list_all (is_mirrorable h) (leading_items items))
      (lt-ltb (v.size + length (leading_items items)) (2 ^ 32) few)
      ∙ sym so_far.tests ∙ ap (list_all (is_mirrorable h)) (leading_none rest none)
