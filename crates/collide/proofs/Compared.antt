-- Comparisons of two hashes, from those of their parts.
use Rattle.std.proofs.Common.{◌≡◌, ◌≢◌, List, [], ◌∷◌, length, take, drop, Ok, Err, sym, ◌∙◌, ap}
use Rattle.std.proofs.Common.{subst}
use Rattle.std.specs.Prelude.{Result}
use Rattle.std.specs.List.{Contains}
use Rattle.byte_formats.specs.Types.{Hash, HashFunction, Text}
use Rattle.tree_core.proofs.Roots.{root_of-one}
use Rattle.tree_core.specs.Split.{split_of}
use Rattle.tree_core.specs.Tree.{leaf_hash, pair_hash, tree_hash}
use Rattle.tree_proofs.proofs.Halving.{halves_same}
use Rattle.collide.proofs.Hashed.{first_in, inputs_of-one, left_in, only_in, right_in}
use Rattle.tree_proofs.proofs.Halving.{halves_hash}
use Rattle.collide.proofs.Hashed.{root_in}
use Rattle.collide.specs.Comparison.{AreRoots, Compares, WhereFound}
use Rattle.tree_proofs.specs.Halves.{AreHalves}
use Rattle.collide.specs.Inputs.{inputs_of, leaf_input, pair_input}
use Rattle.collide.specs.declared.comparing.Halt.{Halt}
use Rattle.collide.specs.declared.comparing.Halt.TheVariants.{Found, Memory}
use Rattle.collide.specs.declared.comparing.Roots.{Roots}
use Rattle.collide.specs.declared.finding.Finding.{Finding}
use Rattle.collide.specs.declared.finding.Finding.TheVariants.{Pair, Same}
use Rattle.collide.specs.Extraction.{Extracts, IsCollision}

-- what is hashed stays where there are more strings
pub collision_widened : (h : HashFunction) (xs ys vs ws : List Text) (x y : Text)
    → (Contains xs x → Contains vs x) → (Contains ys y → Contains ws y)
    → IsCollision h xs ys x y → IsCollision h vs ws x y
collision_widened h xs ys vs ws x y first second is = record {
  differ = is.differ;
  one_hash = is.one_hash;
  first = first is.first;
  second = second is.second;
}

-- a comparison is one of other things that are the same where these are
pub compares_widened : (h : HashFunction) (this that : Type 0) (a b c d : Hash)
    (xs ys vs ws : List Text) (result : Result Roots Halt)
    → (this → that) → a ≡ c → b ≡ d
    → ((x : Text) → Contains xs x → Contains vs x) → ((y : Text) → Contains ys y → Contains ws y)
    → Compares h this a b xs ys result → Compares h that c d vs ws result
compares_widened h this that a b c d xs ys vs ws (Ok roots) so first second firsts seconds is =
    record {
      first = is.first ∙ first;
      second = is.second ∙ second;
      agree = λ agree. so (is.agree agree);
    }
compares_widened h this that a b c d xs ys vs ws (Err (Found x y)) so first second firsts seconds
    is = collision_widened h xs ys vs ws x y (firsts x) (seconds y) is
compares_widened h this that a b c d xs ys vs ws (Err Memory) so first second firsts seconds is = tt

-- two strings are found where they differ and have one hash
pub found_these : (h : HashFunction) (x y a b : Text) → a ≡ x → b ≡ y → (x ≡ y → ⊥) → h x ≡ h y
    → IsCollision h (x ∷ []) (y ∷ []) a b
found_these h x y a b first second differ same = record {
  differ = λ is. differ (sym first ∙ is ∙ second);
  one_hash = ap h first ∙ same ∙ sym (ap h second);
  first = subst (λ t. Contains (x ∷ []) t) (sym first) (first_in x []);
  second = subst (λ t. Contains (y ∷ []) t) (sym second) (first_in y []);
}

-- The trees of two lists.

pub lists_one : (h : HashFunction) (xs ys : List Text) (x y : Text) (result : Result Roots Halt)
    → xs ≡ x ∷ [] → ys ≡ y ∷ []
    → Compares h (x ≡ y) (leaf_hash h x) (leaf_hash h y) (leaf_input x ∷ []) (leaf_input y ∷ [])
    result
    → Compares h (xs ≡ ys) (tree_hash h xs) (tree_hash h ys) (inputs_of h xs) (inputs_of h ys)
    result
lists_one h xs ys x y result first second is =
    compares_widened h (x ≡ y) (xs ≡ ys) (leaf_hash h x) (leaf_hash h y) (tree_hash h xs)
    (tree_hash h ys) (leaf_input x ∷ []) (leaf_input y ∷ []) (inputs_of h xs) (inputs_of h ys)
    result
    (λ same. first ∙ ap (λ t. t ∷ []) same ∙ sym second)
    (sym (ap (tree_hash h) first ∙ root_of-one h (leaf_hash h x)))
    (sym (ap (tree_hash h) second ∙ root_of-one h (leaf_hash h y)))
    (λ t. subst (λ texts. Contains texts t) (sym (ap (inputs_of h) first ∙ inputs_of-one h x)))
    (λ t. subst (λ texts. Contains texts t) (sym (ap (inputs_of h) second ∙ inputs_of-one h y)))
    is

-- what was found in a part is found in the list
pub lists_left : (h : HashFunction) (xs xl xr ys yl yr : List Text) (halt : Halt)
    → AreHalves xs xl xr → AreHalves ys yl yr
    → Compares h (xl ≡ yl) (tree_hash h xl) (tree_hash h yl) (inputs_of h xl) (inputs_of h yl)
    (Err halt)
    → Compares h (xs ≡ ys) (tree_hash h xs) (tree_hash h ys) (inputs_of h xs) (inputs_of h ys)
    (Err halt)
lists_left h xs xl xr ys yl yr (Found x y) first second is =
    collision_widened h _ _ _ _ x y (left_in h xs xl xr x first) (left_in h ys yl yr y second) is
lists_left h xs xl xr ys yl yr Memory first second is = tt

pub lists_right : (h : HashFunction) (xs xl xr ys yl yr : List Text) (halt : Halt)
    → AreHalves xs xl xr → AreHalves ys yl yr
    → Compares h (xr ≡ yr) (tree_hash h xr) (tree_hash h yr) (inputs_of h xr) (inputs_of h yr)
    (Err halt)
    → Compares h (xs ≡ ys) (tree_hash h xs) (tree_hash h ys) (inputs_of h xs) (inputs_of h ys)
    (Err halt)
lists_right h xs xl xr ys yl yr (Found x y) first second is =
    collision_widened h _ _ _ _ x y (right_in h xs xl xr x first) (right_in h ys yl yr y second) is
lists_right h xs xl xr ys yl yr Memory first second is = tt

-- the roots, by those of the parts
pub lists_both : (h : HashFunction) (xs xl xr ys yl yr : List Text) (left right : Roots)
    (result : Result Roots Halt) → AreHalves xs xl xr → AreHalves ys yl yr → length xs ≡ length ys
    → AreRoots (xl ≡ yl) (tree_hash h xl) (tree_hash h yl) left
    → AreRoots (xr ≡ yr) (tree_hash h xr) (tree_hash h yr) right
    → Compares h ((left.first ≡ left.second) × (right.first ≡ right.second))
    (pair_hash h left.first right.first) (pair_hash h left.second right.second)
    (pair_input left.first right.first ∷ []) (pair_input left.second right.second ∷ []) result
    → Compares h (xs ≡ ys) (tree_hash h xs) (tree_hash h ys) (inputs_of h xs) (inputs_of h ys)
    result
lists_both h xs xl xr ys yl yr left right result first second size left_are right_are is =
    compares_widened h _ (xs ≡ ys) _ _ (tree_hash h xs) (tree_hash h ys)
    (pair_input left.first right.first ∷ []) (pair_input left.second right.second ∷ [])
    (inputs_of h xs) (inputs_of h ys) result
    (λ same. halves_same xs xl xr ys yl yr first second size (left_are.agree same.0)
    (right_are.agree same.1))
    (pairs left.first right.first left_are.first right_are.first
    ∙ sym (halves_hash h xs xl xr first))
    (pairs left.second right.second left_are.second right_are.second
    ∙ sym (halves_hash h ys yl yr second))
    (λ t within. subst (Contains (inputs_of h xs)) (sym (only_in _ t within))
    (subst (Contains (inputs_of h xs))
    (sym (inputs left.first right.first left_are.first right_are.first))
    (root_in h xs xl xr first)))
    (λ t within. subst (Contains (inputs_of h ys)) (sym (only_in _ t within))
    (subst (Contains (inputs_of h ys))
    (sym (inputs left.second right.second left_are.second right_are.second))
    (root_in h ys yl yr second)))
    is
  where
    inputs : (l r : Hash) {a b : Hash} → l ≡ a → r ≡ b → pair_input l r ≡ pair_input a b
    inputs l r {a = a} left_is right_is =
        ap (λ x. pair_input x r) left_is ∙ ap (pair_input a) right_is

    pairs : (l r : Hash) {a b : Hash} → l ≡ a → r ≡ b → pair_hash h l r ≡ pair_hash h a b
    pairs l r left_is right_is = ap h (inputs l r left_is right_is)

-- the lists differ where strings were found
pub apart_left : (xs xl xr ys yl yr : List Text) (halt : Halt) → AreHalves xs xl xr
    → AreHalves ys yl yr → WhereFound (xl ≢ yl) (Err halt) → WhereFound (xs ≢ ys) (Err halt)
apart_left xs xl xr ys yl yr (Found x y) first second apart = λ same.
    apart (first.left ∙ ap (λ all. take (split_of (length all)) all) same ∙ sym second.left)
apart_left xs xl xr ys yl yr Memory first second apart = tt

pub apart_right : (xs xl xr ys yl yr : List Text) (halt : Halt) → AreHalves xs xl xr
    → AreHalves ys yl yr → WhereFound (xr ≢ yr) (Err halt) → WhereFound (xs ≢ ys) (Err halt)
apart_right xs xl xr ys yl yr (Found x y) first second apart = λ same.
    apart (first.right ∙ ap (λ all. drop (split_of (length all)) all) same ∙ sym second.right)
apart_right xs xl xr ys yl yr Memory first second apart = tt

pub apart_both : (h : HashFunction) (same : Type 0) (xs xl xr ys yl yr : List Text)
    (left right : Roots) (a b : Hash) (result : Result Roots Halt)
    → AreHalves xs xl xr → AreHalves ys yl yr
    → AreRoots (xl ≡ yl) (tree_hash h xl) (tree_hash h yl) left
    → AreRoots (xr ≡ yr) (tree_hash h xr) (tree_hash h yr) right
    → Compares h same a b
    (pair_input left.first right.first ∷ []) (pair_input left.second right.second ∷ []) result
    → WhereFound (xs ≢ ys) result
apart_both h same xs xl xr ys yl yr left right a b (Ok roots) first second left_are right_are is =
    tt
apart_both h same xs xl xr ys yl yr left right a b (Err (Found x y)) first second left_are
    right_are is = λ same.
    let left_same : xl ≡ yl = first.left
    ∙ ap (λ all. take (split_of (length all)) all) same ∙ sym second.left in
    let right_same : xr ≡ yr = first.right
    ∙ ap (λ all. drop (split_of (length all)) all) same ∙ sym second.right in
    is.differ (only_in _ x is.first
    ∙ ap (λ l. pair_input l right.first)
    (left_are.first ∙ ap (tree_hash h) left_same ∙ sym left_are.second)
    ∙ ap (pair_input left.second)
    (right_are.first ∙ ap (tree_hash h) right_same ∙ sym right_are.second)
    ∙ sym (only_in _ y is.second))
apart_both h same xs xl xr ys yl yr left right a b (Err Memory) first second left_are right_are is =
    tt

-- What was found of one thing, of another that is the same where it is.
pub extracts_moved : (h : HashFunction) (this that : Type 0) (xs ys vs ws : List Text)
    (finding : Finding) → (this → that) → (that → this) → xs ≡ vs → ys ≡ ws
    → Extracts h this xs ys finding → Extracts h that vs ws finding
extracts_moved h this that xs ys vs ws Same to from first second is = to is
extracts_moved h this that xs ys vs ws (Pair x y) to from first second is = (
  λ same. is.0 (from same),
  collision_widened h xs ys vs ws x y (subst (λ texts. Contains texts x) first)
      (subst (λ texts. Contains texts y) second) is.1,
)

-- the strings that were found
pub found_of : (h : HashFunction) (same : Type 0) (a b : Hash) (xs ys : List Text)
    (result : Result Roots Halt) (x y : Text) → result ≡ Err (Found x y)
    → Compares h same a b xs ys result → IsCollision h xs ys x y
found_of h same a b xs ys result x y is so = subst (Compares h same a b xs ys) is so
