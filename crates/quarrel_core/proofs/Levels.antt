-- One node that is hashed by two computations: the hashes below it are the same, or there are two
-- strings with one hash.
use Rattle.std.proofs.Common.{◌≡◌, Bool, true, false, List, ◌++◌, length, sym, ◌∙◌, refl}
use Rattle.std.specs.Prelude.{bytes_eq, if◌then◌else◌}
use Rattle.std.specs.List.{Contains}
use Rattle.std.proofs.lemmas.Bool.{and_from, and_parts, false≢true}
use Rattle.std.proofs.lemmas.Slice.Eq.{bytes_eq-Decides}
use Rattle.byte_formats.specs.Types.{Hash, HashFunction, Text}
use Rattle.tree_core.specs.Tree.{pair_hash}
use Rattle.collide.proofs.Extracting.{pair_left, pair_right}
use Rattle.collide.proofs.Hashed.{parts_left, parts_right, unprefixed}
use Rattle.collide.specs.Extraction.{IsCollision}
use Rattle.collide.specs.Inputs.{pair_input}
use Rattle.quarrel_core.specs.Joining.{same_pair}

-- the strings of two pairs are the same only where the pairs are
abbrev pub SeparatesPairs : Hash → Hash → Hash → Hash → Type 0
SeparatesPairs a b c d = pair_input a b ≡ pair_input c d → (a ≡ c) × (b ≡ d)

pub separated_by_left : (a b c d : Hash) → length a ≡ length c → SeparatesPairs a b c d
separated_by_left a b c d size same =
    let texts = unprefixed 1 (a ++ b) (c ++ d) same in
    (parts_left a b c d size texts, parts_right a b c d size texts)

pub separated_by_right : (a b c d : Hash) → length b ≡ length d → SeparatesPairs a b c d
separated_by_right a b c d size same =
    (pair_left a b c d size same, pair_right a b c d size same)

pub same_parts : (a b c d : Hash) → same_pair a b c d ≡ true → (a ≡ c) × (b ≡ d)
same_parts a b c d is =
    let both = and_parts (bytes_eq a c) (bytes_eq b d) is in
    let left = bytes_eq-Decides a c in
    let right = bytes_eq-Decides b d in
    (left.0 both.0, right.0 both.1)

pub parts_same : (a b c d : Hash) → a ≡ c → b ≡ d → same_pair a b c d ≡ true
parts_same a b c d first second =
    let left = bytes_eq-Decides a c in
    let right = bytes_eq-Decides b d in
    and_from (bytes_eq a c) (bytes_eq b d) (left.1 first) (right.1 second)

-- the node's hash is one, by both pairs
pub tested : {A : Type 0} (P : A → Type 0) (h : HashFunction) (xs ys : List Text)
    (a b c d : Hash) (r found : A) → SeparatesPairs a b c d → pair_hash h a b ≡ pair_hash h c d
    → Contains xs (pair_input a b) → Contains ys (pair_input c d)
    → (a ≡ c → b ≡ d → P r)
    → (IsCollision h xs ys (pair_input a b) (pair_input c d) → P found)
    → P (if same_pair a b c d then r else found)
tested P h xs ys a b c d r found separates one_hash first second same collides =
    by_test (same_pair a b c d) refl
  where
    by_test : (t : Bool) → same_pair a b c d ≡ t → P (if t then r else found)
    by_test true is = let parts = same_parts a b c d is in same parts.0 parts.1
    by_test false is = collides (record {
      differ = λ texts.
          let parts = separates texts in
          false≢true (sym is ∙ parts_same a b c d parts.0 parts.1);
      one_hash = one_hash;
      first = first;
      second = second;
    })
