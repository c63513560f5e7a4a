-- A store that passes its tests is valid, and a valid one passes them.
use Rattle.std.proofs.Common.{◌≡◌, ◌<◌, ◌≤◌, ℕ, ◌&&◌, not, nat_le, nat_lt, Bool, true, false, List}
use Rattle.std.proofs.Common.{[], ◌∷◌, length, Ok, Err, refl, sym, ◌∙◌, arith}
use Rattle.std.proofs.lemmas.Bool.{and_parts, not-true, or_parts}
use Rattle.std.proofs.lemmas.Bool.Decides.{nat_tests}
use Rattle.std.specs.List.{list_all, list_any, AllByRecursion, IsDistinct}
use Rattle.std.specs.Str.{bytes_eq}
use Rattle.std.proofs.lemmas.Slice.Eq.{bytes_eq-Decides}
use Rattle.cert_names.specs.LogNames.{name_with}
use Rattle.tls_wire.specs.Anchors.{text_of}
use Rattle.tree_core.specs.Subtree.{is_subtree}
use Rattle.tree_core.proofs.Subtrees.{is_subtree_iff}
use Rattle.tree_core.specs.declared.spans.Span.{Span}
use Rattle.policy_core.specs.declared.error.StoreError.{StoreError}
use Rattle.policy_core.specs.declared.lists.Trusted.{Trusted}
use Rattle.policy_core.specs.declared.rules.Rule.{Rule}
use Rattle.policy_core.specs.declared.store.Store.{Store}
use Rattle.policy_core.specs.Files.{are_subtrees, are_inhabited, checked_store, valid_store}
use Rattle.policy_core.specs.Limits.{most_cosigners}
use Rattle.policy_core.specs.Stores.{has_repeat, has_same_id, has_same_interval, is_rule}
use Rattle.policy_core.specs.Stores.{is_same_index, IsRule}
use Rattle.policy_core.specs.Stores.{IsOfSubtree, IsInhabited, IsValid}

none_same : {A : Type 0} (same : A → A → Bool) (x : A) (xs : List A)
    → list_any (same x) xs ≡ false → AllByRecursion (λ y. same x y ≡ false) xs
none_same same x [] h = tt
none_same same x (y ∷ ys) h =
    let (here, more) = or_parts (same x y) (list_any (same x) ys) h in
    (here, none_same same x ys more)

pub different : {A : Type 0} (same : A → A → Bool) (xs : List A) → has_repeat same xs ≡ false
    → IsDistinct same xs
unfolding has_repeat IsDistinct
different same [] h = tt
different same (x ∷ xs) h =
    let (here, more) = or_parts (list_any (same x) xs) (has_repeat same xs) h in
    (none_same same x xs here, different same xs more)

subtrees : (xs : List Trusted) → are_subtrees xs ≡ true → AllByRecursion IsOfSubtree xs
subtrees [] h = tt
subtrees (x ∷ xs) h =
    let (here, more) = and_parts (is_subtree x.start x.end) (are_subtrees xs) h in
    ((is_subtree_iff x.start x.end).0 here, subtrees xs more)

ranges : (xs : List Span) → are_inhabited xs ≡ true → AllByRecursion IsInhabited xs
ranges [] h = tt
ranges (x ∷ xs) h =
    let (here, more) = and_parts (nat_lt x.start x.end) (are_inhabited xs) h in
    (grind (arith, nat_tests, here), ranges xs more)

pub whole : (s : Store) → s.name ≡ name_with (text_of s.log) → length s.cosigners ≤ most_cosigners
    → AllByRecursion (IsRule (length s.cosigners)) s.rules
    → has_repeat has_same_id s.cosigners ≡ false
    → has_repeat has_same_interval s.subtrees ≡ false
    → are_subtrees s.subtrees ≡ true → are_inhabited s.revoked ≡ true → IsValid s
whole s name few rules ids distinct valid short =
    record {
      name = name;
      few = few;
      cosigners = different has_same_id s.cosigners ids;
      rules = rules;
      subtrees = subtrees s.subtrees valid;
      different =
          different has_same_interval s.subtrees distinct;
      revoked = ranges s.revoked short;
    }

-- ---- rules, by their test

all_below : (known : ℕ) (ns : List ℕ) → list_all (λ n. nat_lt n known) ns ≡ true
    → AllByRecursion (λ n. n < known) ns
all_below known [] h = tt
all_below known (n ∷ ns) h =
    let (here, more) = and_parts (nat_lt n known) (list_all (λ m. nat_lt m known) ns) h in
    (grind (arith, nat_tests, here), all_below known ns more)

rule_is : (known : ℕ) (r : Rule) → is_rule known r ≡ true → IsRule known r
rule_is known r h =
    let indices : Bool = list_all (λ n. nat_lt n known) r.cosigners in
    let apart : Bool = not (has_repeat is_same_index r.cosigners) in
    let some : Bool = nat_le 1 r.count in
    let most : Bool = nat_le r.count (length r.cosigners) in
    let two = and_parts (indices && apart) (some && most) h in
    let names = and_parts indices apart two.0 in
    let counts = and_parts some most two.1 in
    record {
      indices = all_below known r.cosigners names.0;
      different = different is_same_index r.cosigners (not-true _ names.1);
      some = grind (arith, nat_tests, counts.0);
      most = grind (arith, nat_tests, counts.1);
    }

pub all_are : (known : ℕ) (rs : List Rule) → list_all (is_rule known) rs ≡ true
    → AllByRecursion (IsRule known) rs
all_are known [] h = tt
all_are known (r ∷ rs) h =
    let (here, more) = and_parts (is_rule known r) (list_all (is_rule known) rs) h in
    (rule_is known r here, all_are known rs more)

-- ---- a valid store passes each test

same_none : {A : Type 0} (same : A → A → Bool) (x : A) (xs : List A)
    → AllByRecursion (λ y. same x y ≡ false) xs → list_any (same x) xs ≡ false
same_none same x [] h = refl
same_none same x (y ∷ ys) h = rw (h.0) (same_none same x ys h.1)

no_repeat : {A : Type 0} (same : A → A → Bool) (xs : List A) → IsDistinct same xs
    → has_repeat same xs ≡ false
unfolding has_repeat IsDistinct
no_repeat same [] h = refl
no_repeat same (x ∷ xs) h = rw (same_none same x xs h.0) (no_repeat same xs h.1)

subtrees_pass : (xs : List Trusted) → AllByRecursion IsOfSubtree xs → are_subtrees xs ≡ true
subtrees_pass [] h = refl
subtrees_pass (x ∷ xs) h =
    rw ((is_subtree_iff x.start x.end).1 h.0) (subtrees_pass xs h.1)

ranges_pass : (xs : List Span) → AllByRecursion IsInhabited xs → are_inhabited xs ≡ true
ranges_pass [] h = refl
ranges_pass (x ∷ xs) h =
    let here : nat_lt x.start x.end ≡ true = grind (arith, nat_tests, h.0) in
    rw (here) (ranges_pass xs h.1)

pub valid_passes : (s : Store) → IsValid s → checked_store s ≡ Ok s
unfolding checked_store
valid_passes s v =
    rw (
      no_repeat has_same_id s.cosigners v.cosigners,
      no_repeat has_same_interval s.subtrees v.different,
      subtrees_pass s.subtrees v.subtrees,
      ranges_pass s.revoked v.revoked,
    ) refl

below_pass : (known : ℕ) (ns : List ℕ) → AllByRecursion (λ n. n < known) ns
    → list_all (λ n. nat_lt n known) ns ≡ true
below_pass known [] h = refl
below_pass known (n ∷ ns) h =
    let here : nat_lt n known ≡ true = grind (arith, nat_tests, h.0) in
    rw (here) (below_pass known ns h.1)

rule_passes : (known : ℕ) (r : Rule) → IsRule known r → is_rule known r ≡ true
rule_passes known r rule =
    let some : nat_le 1 r.count ≡ true = grind (arith, nat_tests, rule.some) in
    let most : nat_le r.count (length r.cosigners) ≡ true = grind (arith, nat_tests, rule.most) in
    rw (
      below_pass known r.cosigners rule.indices,
      no_repeat is_same_index r.cosigners rule.different,
      some,
      most,
    ) refl

rules_pass : (known : ℕ) (rs : List Rule) → AllByRecursion (IsRule known) rs
    → list_all (is_rule known) rs ≡ true
rules_pass known [] h = refl
rules_pass known (r ∷ rs) h = rw (rule_passes known r h.0) (rules_pass known rs h.1)

pub is_name : (s : Store) → bytes_eq s.name (name_with (text_of s.log)) ≡ true
    → s.name ≡ name_with (text_of s.log)
is_name s e = (bytes_eq-Decides s.name (name_with (text_of s.log))).0 e

pub filled_passes : (s : Store) → IsValid s → valid_store s ≡ Ok s
unfolding valid_store
filled_passes s v =
    let named : bytes_eq s.name (name_with (text_of s.log)) ≡ true =
    (bytes_eq-Decides s.name (name_with (text_of s.log))).1 v.name in
    rw (named, rules_pass (length s.cosigners) s.rules v.rules) (valid_passes s v)

ok_is_no_err : (s : Store) (e : StoreError) → Ok s ≡ Err e → ⊥
ok_is_no_err s e is = absurd cc

-- So one that is refused isn't valid.
pub invalid : (s : Store) (e : StoreError) → IsValid s → valid_store s ≡ Err e → ⊥
invalid s e v is = ok_is_no_err s e (sym (filled_passes s v) ∙ is)
