-- The test of a subtree: at the power of two over its length, and against the words of the
-- standard.
use Rattle.std.proofs.Common.{◌≡◌, ℕ, ◌-◌, ◌%◌, ◌^◌, ◌<◌, ◌≤◌, ◌↔◌, true, false, eqb, sym, ◌∙◌, ap}
use Rattle.std.proofs.Common.{refl, arith}
use Rattle.std.proofs.lemmas.Bool.{and_left, and_parts, eq-eqb, eqb-true, le-ltb, lt-ltb, ltb-true}
use Rattle.std.specs.Prelude.{IsTrue}
use Rattle.tree_core.proofs.Powers.{least_unique, power_over_large, power_over_least}
use Rattle.tree_core.specs.Laws.{IsSubtree}
use Rattle.tree_core.specs.Split.{power_over}
use Rattle.tree_core.specs.Subtree.{is_subtree}

pub is_subtree-empty : (start end : ℕ) → end ≤ start → is_subtree start end ≡ false
unfolding is_subtree
is_subtree-empty start end empty = and_left _ _ (le-ltb start end empty)

pub is_subtree-over : (start end power : ℕ) → start < end → power ≡ power_over (end - start)
    → is_subtree start end ≡ eqb (start % power) 0
unfolding is_subtree
is_subtree-over start end power some is =
    rw (lt-ltb start end some, ← is) refl

-- below 2^64 the one multiple of 2^64 is 0
pub is_subtree-large : (start end : ℕ) → start < end → end < 2 ^ 64 → 2 ^ 63 < end - start
    → is_subtree start end ≡ eqb start 0
is_subtree-large start end some fits large =
    let over : power_over (end - start) ≡ 2 ^ 64 =
    power_over_large (end - start) large (omega arith) in
    let rest : start % (2 ^ 64) ≡ start = omega arith in
    is_subtree-over start end (2 ^ 64) some (sym over) ∙ ap (λ s. eqb s 0) rest

-- a test that holds gives the words, and the words give the test
IsSubtree-from : (start end : ℕ) → is_subtree start end ≡ true → IsSubtree start end
unfolding is_subtree
IsSubtree-from start end is =
    let both = and_parts _ _ is in
    record {
      inhabited = ltb-true start end both.0;
      aligned = (power_over (end - start), (power_over_least (end - start), eqb-true _ _ both.1));
    }

pub is_subtree-from : (start end : ℕ) → IsSubtree start end → is_subtree start end ≡ true
is_subtree-from start end is =
    let over = least_unique (end - start) is.aligned.0 is.aligned.1.0 in
    is_subtree-over start end is.aligned.0 is.inhabited over ∙ eq-eqb _ _ is.aligned.1.1

pub is_subtree_iff : (start end : ℕ) → IsTrue (is_subtree start end) ↔ IsSubtree start end
is_subtree_iff start end = (IsSubtree-from start end, is_subtree-from start end)
