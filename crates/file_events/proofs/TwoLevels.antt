-- With two levels no key is used twice where the numbers of the records count up.
use Rattle.std.proofs.Common.{◌≡◌, ℕ, zero, suc, ◌+◌, ◌*◌, ◌/◌, ◌%◌, ◌^◌, ◌≤◌, List, [], ◌∷◌, ◌++◌}
use Rattle.std.proofs.Common.{Option, None, Some, refl, sym, ap, subst, ◌∙◌, arith, slice_get}
use Rattle.std.proofs.lemmas.Nat.{div-add-mod'}
use Rattle.std.proofs.lemmas.Option.{same_Some}
use Rattle.byte_formats.specs.Types.{Text}
use Rattle.file_events.specs.Keys.{CountUpFrom, KeyUse, TwoLevelsUseOnce, either_use, lower}
use Rattle.file_events.specs.Keys.{numbers_in, two_levels, upper, uses_after, with_number}
use Rattle.file_events.specs.Keys.{with_use}

-- a key of these signatures and lower trees on
abbrev KeyFrom : ℕ → ℕ → ℕ → KeyUse → Type 0
KeyFrom size signs trees (upper tree) = trees ≤ tree
KeyFrom size signs trees (lower tree number) = signs ≤ tree * size + number

abbrev KeysFrom : ℕ → ℕ → ℕ → List KeyUse → Type 0
KeysFrom size signs trees keys =
    (i : ℕ) (key : KeyUse) → slice_get keys i ≡ Some key → KeyFrom size signs trees key

abbrev Once : List KeyUse → Type 0
Once keys = (i j : ℕ) (key : KeyUse) → slice_get keys i ≡ Some key
    → slice_get keys j ≡ Some key → i ≡ j

-- what holds of all keys from some on
record AreKeys (size signs trees : ℕ) (keys : List KeyUse) : Type 0 where
  pub start : KeysFrom size signs trees keys
  pub once : Once keys

later : (size signs trees more others : ℕ) (key : KeyUse) → signs ≤ more → trees ≤ others
    → KeyFrom size more others key → KeyFrom size signs trees key
later size signs trees more others (upper tree) far far' start =
    let here : others ≤ tree = start in omega (arith, far', here)
later size signs trees more others (lower tree number) far far' start =
    let sum = tree * size + number in
    let here : more ≤ sum = start in
    let there : signs ≤ sum = omega (arith, far, here) in there

once_more : (head : KeyUse) (keys : List KeyUse) → Once keys
    → ((j : ℕ) → slice_get keys j ≡ Some head → ⊥) → Once (head ∷ keys)
once_more head keys once never zero zero key is is' = refl
once_more head keys once never zero (suc j) key is is' = absurd (never j (is' ∙ sym is))
once_more head keys once never (suc i) zero key is is' = absurd (never i (is ∙ sym is'))
once_more head keys once never (suc i) (suc j) key is is' = ap suc (once i j key is is')

from_more : (size signs trees more others : ℕ) (head : KeyUse) (keys : List KeyUse)
    → signs ≤ more → trees ≤ others → KeyFrom size signs trees head
    → KeysFrom size more others keys → KeysFrom size signs trees (head ∷ keys)
from_more size signs trees more others head keys far far' start all zero key is =
    subst (λ (k : KeyUse). KeyFrom size signs trees k) (same_Some head key is) start
from_more size signs trees more others head keys far far' start all (suc i) key is =
    later size signs trees more others key far far' (all i key is)

-- the first number, and the others
count_head : (first number : ℕ) (numbers : List ℕ) → CountUpFrom first (number ∷ numbers)
    → number ≡ first
count_head first number numbers count = omega (arith, count 0 number refl)

count_tail : (first number : ℕ) (numbers : List ℕ) → CountUpFrom first (number ∷ numbers)
    → CountUpFrom (first + 1) numbers
count_tail first number numbers count i next is = omega (arith, count (suc i) next is)

sum_is : (size number : ℕ) → number / size * size + number % size ≡ number
sum_is size number = div-add-mod' number size

-- the keys after a signature, and after a lower tree
at_sign : (size signs trees others number : ℕ) (keys : List KeyUse) → number ≡ signs
    → trees ≤ others → AreKeys size (signs + 1) others keys
    → AreKeys size signs trees (lower (number / size) (number % size) ∷ keys)
at_sign size signs trees others number keys is far rest =
    let key = lower (number / size) (number % size) in record {
      start = from_more size signs trees (signs + 1) others key keys (omega arith) far
          (subst (λ (n : ℕ). signs ≤ n) (sym (sum_is size number)) (omega (arith, is)))
          rest.start;
      once = once_more key keys rest.once (λ j there.
          let after : signs + 1 ≤ number
          = subst (λ (n : ℕ). signs + 1 ≤ n) (sum_is size number) (rest.start j key there) in
          absurd (omega (arith, is, after)));
    }

at_tree : (size signs trees tree : ℕ) (keys : List KeyUse) → tree ≡ trees
    → AreKeys size signs (trees + 1) keys → AreKeys size signs trees (upper tree ∷ keys)
at_tree size signs trees tree keys is rest = record {
  start = from_more size signs trees signs (trees + 1) (upper tree) keys (omega arith)
      (omega arith) (omega (arith, is)) rest.start;
  once = once_more (upper tree) keys rest.once (λ j there.
      let after : trees + 1 ≤ tree = rest.start j (upper tree) there in
      absurd (omega (arith, is, after)));
}

-- one record more
one_more : (size signs trees : ℕ) (sign tree : Option ℕ) (numbers others : List ℕ)
    (keys : List KeyUse) → CountUpFrom signs (with_number sign numbers)
    → CountUpFrom trees (with_number tree others)
    → ((s t : ℕ) → CountUpFrom s numbers → CountUpFrom t others → AreKeys size s t keys)
    → AreKeys size signs trees (with_use (either_use size sign tree) keys)
one_more size signs trees None None numbers others keys count count' rest =
    rest signs trees count count'
one_more size signs trees None (Some tree) numbers others keys count count' rest =
    at_tree size signs trees tree keys (count_head trees tree others count')
    (rest signs (trees + 1) count (count_tail trees tree others count'))
one_more size signs trees (Some number) None numbers others keys count count' rest =
    at_sign size signs trees trees number keys (count_head signs number numbers count)
    (omega arith) (rest (signs + 1) trees (count_tail signs number numbers count) count')
one_more size signs trees (Some number) (Some tree) numbers others keys count count' rest =
    at_sign size signs trees (trees + 1) number keys (count_head signs number numbers count)
    (omega arith) (rest (signs + 1) (trees + 1) (count_tail signs number numbers count)
    (count_tail trees tree others count'))

module _ (low : ℕ) (sign_of tree_of : Text → Option ℕ) (first : Text) where
  all_keys : (bodies prefix : List Text) (signs trees : ℕ)
      → CountUpFrom signs (numbers_in sign_of bodies)
      → CountUpFrom trees (numbers_in tree_of bodies)
      → AreKeys (2 ^ low) signs trees
      (uses_after (two_levels low sign_of tree_of) (first ∷ prefix) bodies)
  all_keys [] prefix signs trees count count' = record {
    start = λ i key is. absurd cc;
    once = λ i j key is is'. absurd cc;
  }
  all_keys (body ∷ bodies) prefix signs trees count count' =
      one_more (2 ^ low) signs trees (sign_of body) (tree_of body) (numbers_in sign_of bodies)
      (numbers_in tree_of bodies)
      (uses_after (two_levels low sign_of tree_of) (first ∷ (prefix ++ body ∷ [])) bodies) count
      count' (λ s t counted counted'. all_keys bodies (prefix ++ body ∷ []) s t counted counted')

pub two_levels_once : TwoLevelsUseOnce
two_levels_once low signs trees sign_of tree_of first bodies count count' i j key at_i at_j =
    (all_keys low sign_of tree_of first bodies [] signs trees count count').once i j key at_i at_j
