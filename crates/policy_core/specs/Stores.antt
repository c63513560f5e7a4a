-- Stores, and which of them are valid. Trusted intervals are subtrees, as the draft on Merkle Tree
-- Certificates defines them.
use Rattle.std.specs.Prelude.{◌≡◌, ℕ, ◌<◌, ◌≤◌, ◌==◌, ◌&&◌, ◌||◌, Bool, false, List, [], ◌∷◌}
use Rattle.std.specs.Prelude.{length, not, nat_le, nat_lt, None}
use Rattle.std.specs.List.{list_all, list_any, AllByRecursion, IsDistinct}
use Rattle.std.specs.Str.{bytes_eq}
use Rattle.byte_formats.specs.Types.{Text}
use Rattle.cert_names.specs.LogNames.{name_with}
use Rattle.tls_wire.specs.Anchors.{text_of}
use Rattle.tree_core.specs.Laws.{IsSubtree}
use Rattle.tree_core.specs.declared.spans.Span.{Span}
use Rattle.policy_core.specs.Limits.{most_cosigners}
use Rattle.policy_core.specs.declared.cosigners.Known.{Known}
use Rattle.policy_core.specs.declared.lists.Trusted.{Trusted}
use Rattle.policy_core.specs.declared.rules.Rule.{Rule}
use Rattle.policy_core.specs.declared.store.Store.{Store}

-- The two cosigners have one id, the two subtrees one interval; the two indices are one.
abbrev pub has_same_id : Known → Known → Bool
has_same_id a b = bytes_eq a.id b.id

abbrev pub has_same_interval : Trusted → Trusted → Bool
has_same_interval a b = (a.start == b.start) && (a.end == b.end)

abbrev pub is_same_index : ℕ → ℕ → Bool
is_same_index a b = a == b

-- Two of these are the same.
unfoldable pub has_repeat : {A : Type 0} → (A → A → Bool) → List A → Bool
has_repeat same [] = false
has_repeat same (x ∷ xs) = list_any (same x) xs || has_repeat same xs

-- The rule names different ones of so many cosigners, and asks for one at least and all at most.
pub record IsRule (known : ℕ) (r : Rule) : Type 0 where
  pub indices : AllByRecursion (λ n. n < known) r.cosigners
  pub different : IsDistinct is_same_index r.cosigners
  pub some : 1 ≤ r.count
  pub most : r.count ≤ length r.cosigners

-- The same as a test.
abbrev pub is_rule : ℕ → Rule → Bool
is_rule known r =
    (list_all (λ n. nat_lt n known) r.cosigners && not (has_repeat is_same_index r.cosigners))
    && (nat_le 1 r.count && nat_le r.count (length r.cosigners))

-- The interval is that of a subtree.
abbrev pub IsOfSubtree : Trusted → Type 0
IsOfSubtree t = IsSubtree t.start t.end

-- The range holds a number.
abbrev pub IsInhabited : Span → Type 0
IsInhabited r = r.start < r.end

-- The name is that of the log, there are not too many cosigners, whose ids differ, each rule is one
-- over them, each interval is a subtree and is trusted once, and each revoked range holds a number.
pub record IsValid (s : Store) : Type 0 where
  pub name : s.name ≡ name_with (text_of s.log)
  pub few : length s.cosigners ≤ most_cosigners
  pub cosigners : IsDistinct has_same_id s.cosigners
  pub rules : AllByRecursion (IsRule (length s.cosigners)) s.rules
  pub subtrees : AllByRecursion IsOfSubtree s.subtrees
  pub different : IsDistinct has_same_interval s.subtrees
  pub revoked : AllByRecursion IsInhabited s.revoked

-- The store for the log with this id in which nothing else stands.
abbrev pub empty_store : Text → Store
empty_store id = record {
  log = id;
  name = name_with (text_of id);
  algorithm_from = None;
  cosigners = [];
  rules = [];
  subtrees = [];
  revoked = [];
}
