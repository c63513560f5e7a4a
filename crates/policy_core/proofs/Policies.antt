-- Rules that are met.
use Rattle.std.proofs.Common.{◌≡◌, ℕ, suc, ◌+◌, ◌<◌, ◌≤◌, ◌==◌, Bool, true, false, not, nat_lt}
use Rattle.std.proofs.Common.{List, [], ◌∷◌, length, Option, Some, None, cond, refl, arith}
use Rattle.std.proofs.lemmas.Bool.Decides.{nat_tests}
use Rattle.std.specs.List.{AllByRecursion, position, position_or_len}
use Rattle.std.specs.Prelude.{option_map}
use Rattle.byte_formats.proofs.Values.{not_zero}
use Rattle.policy_core.specs.declared.rules.Rule.{Rule}
use Rattle.policy_core.specs.Counting.{is_met, first_unmet}
use Rattle.policy_core.specs.Acceptance.{IsMet}

-- ---- the first that passes

none_passes : {A : Type 0} (test : A → Bool) (xs : List A)
    → length xs ≤ position_or_len test xs → AllByRecursion (λ x. test x ≡ false) xs
none_passes test [] le = tt
none_passes test (x ∷ xs) le = go (test x) refl le (λ h. none_passes test xs h)
  where
    go : (b : Bool) → test x ≡ b
        → suc (length xs) ≤ cond (not b) (1 + position_or_len test xs) 0
        → (length xs ≤ position_or_len test xs → AllByRecursion (λ y. test y ≡ false) xs)
        → AllByRecursion (λ y. test y ≡ false) (x ∷ xs)
    go true is le later = absurd (omega arith)
    go false is le later = (is, later (omega arith))

abbrev first_index : Bool → ℕ → Option ℕ
first_index b n = cond b (Some n) None

no_position : {A : Type 0} (test : A → Bool) (xs : List A) → position test xs ≡ None
    → AllByRecursion (λ x. test x ≡ false) xs
no_position test xs e = go (nat_lt (position_or_len test xs) (length xs)) refl e
  where
    go : (b : Bool) → nat_lt (position_or_len test xs) (length xs) ≡ b
        → first_index b (position_or_len test xs) ≡ None → AllByRecursion (λ x. test x ≡ false) xs
    go true is e = absurd cc
    go false is e = none_passes test xs (grind (arith, nat_tests, is))

whole_length : {A : Type 0} (test : A → Bool) (xs : List A)
    → AllByRecursion (λ x. test x ≡ false) xs → position_or_len test xs ≡ length xs
whole_length test [] all = refl
whole_length test (x ∷ xs) all =
    let more : position_or_len test xs ≡ length xs = whole_length test xs all.1 in
    rw (all.0, more) (omega arith)

not_itself : (n : ℕ) → nat_lt n n ≡ false
not_itself n = grind (arith, nat_tests)

position_none : {A : Type 0} (test : A → Bool) (xs : List A)
    → AllByRecursion (λ x. test x ≡ false) xs → position test xs ≡ None
position_none test xs all =
    let whole : position_or_len test xs ≡ length xs = whole_length test xs all in
    rw (whole, not_itself (length xs)) refl

-- ---- rules

none_of : {A B : Type 0} (f : A → B) (o : Option A) → option_map f o ≡ None → o ≡ None
none_of f None e = refl
none_of f (Some x) e = absurd cc

meets : (set : ℕ) (rules : List Rule) → AllByRecursion (λ r. not (is_met set r) ≡ false) rules
    → AllByRecursion (IsMet set) rules
meets set [] all = tt
meets set (r ∷ rs) all = (met r all.0, meets set rs all.1)
  where
    met : (r : Rule) → not (is_met set r) ≡ false → IsMet set r
    met r e = grind (arith, nat_tests, e)

met_again : (set : ℕ) (rules : List Rule) → AllByRecursion (IsMet set) rules
    → AllByRecursion (λ r. not (is_met set r) ≡ false) rules
met_again set [] all = tt
met_again set (r ∷ rs) all = (met r all.0, met_again set rs all.1)
  where
    met : (r : Rule) → IsMet set r → not (is_met set r) ≡ false
    met r le = grind (arith, nat_tests, le)

no_rule_fails : (b : Bool) (o : Option ℕ) → cond b (Some 0) o ≡ None → (b ≡ false) × (o ≡ None)
no_rule_fails true o e = absurd cc
no_rule_fails false o e = (refl, e)

length_some : (n : ℕ) → 0 < n → (n == 0) ≡ false
length_some n lt = grind (arith, nat_tests, lt)

abbrev is_unmet : ℕ → Rule → Bool
is_unmet set r = not (is_met set r)

pub all_met : (set : ℕ) (rules : List Rule) → first_unmet set rules ≡ None
    → (0 < length rules) × AllByRecursion (IsMet set) rules
all_met set rules e =
    let place : Option ℕ = position (is_unmet set) rules in
    let two = no_rule_fails (length rules == 0) (option_map (λ (i : ℕ). i + 1) place) e in
    let none = none_of (λ (i : ℕ). i + 1) place two.1 in
    (not_zero (length rules) two.0, meets set rules (no_position (is_unmet set) rules none))

pub met_all : (set : ℕ) (rules : List Rule) → 0 < length rules → AllByRecursion (IsMet set) rules
    → first_unmet set rules ≡ None
met_all set rules some all =
    let none = position_none (is_unmet set) rules (met_again set rules all) in
    rw (length_some (length rules) some, none) refl
