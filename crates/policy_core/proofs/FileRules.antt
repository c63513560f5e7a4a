-- The rules that a store file says are rules over its cosigners.
use Rattle.std.proofs.Common.{◌≡◌, ℕ, ◌<◌, ◌≤◌, ◌&&◌, Bool, true, false, not, nat_le, List, [], ◌∷◌}
use Rattle.std.proofs.Common.{length, Option, Some, None, Ok, cond, nat_lt, refl, subst, arith}
use Rattle.std.proofs.lemmas.Bool.{and_parts}
use Rattle.std.proofs.lemmas.Bool.Decides.{nat_tests}
use Rattle.std.specs.List.{AllByRecursion, IsDistinct, position, position_or_len}
use Rattle.std.specs.Option.{option_and_then}
use Rattle.std.specs.Prelude.{codes, option_map}
use Rattle.byte_formats.specs.Readings.{◌>>=◌}
use Rattle.byte_formats.proofs.Steps.{bind_ok, ok_is, some_or_ok}
use Rattle.std.specs.Str.{bytes_eq}
use Rattle.std.proofs.lemmas.Bool.{not-true}
use Rattle.toml.specs.Data.{Data, Items, no_items, item, Members, as_array, get_member}
use Rattle.toml_fields.specs.Codes.{number_data}
use Rattle.policy_core.specs.declared.cosigners.Known.{Known}
use Rattle.policy_core.specs.declared.rules.Rule.{Rule}
use Rattle.policy_core.specs.declared.error.Key.{Key}
use Rattle.policy_core.specs.declared.error.Key.TheVariants.{Cosigners, Count}
use Rattle.policy_core.specs.declared.error.StoreError.{StoreError}
use Rattle.policy_core.specs.Fields.{store_field, table_with, id_data, each_of}
use Rattle.policy_core.specs.CosignerFields.{rule_keys, rule_data, indices_data, indices_among}
use Rattle.policy_core.specs.CosignerFields.{index_data, index_found, count_data, if_different}
use Rattle.policy_core.specs.CosignerFields.{if_counts}
use Rattle.policy_core.specs.Stores.{has_repeat, is_same_index, IsRule}
use Rattle.policy_core.proofs.Wholes.{different}

-- ---- options and fields

pub record Came {A B : Type 0} (f : A → Option B) (o : Option A) (y : B) : Type 0 where
  pub value : A
  pub given : o ≡ Some value
  pub made : f value ≡ Some y

came : {A B : Type 0} (f : A → Option B) (o : Option A) (y : B)
    → option_and_then f o ≡ Some y → Came f o y
came f None y e = absurd cc
came f (Some x) y e = record { value = x; given = refl; made = e }

pub record IsField {A : Type 0} (read : Data → Option A) (x : A) : Type 0 where
  pub from : Data
  pub says : read from ≡ Some x

field_is : {A : Type 0} (key : Key) (read : Data → Option A) (o : Option Data) (x : A)
    → store_field key read o ≡ Ok x → IsField read x
field_is key read None x e = absurd cc
field_is key read (Some d) x e = record { from = d; says = some_or_ok _ (read d) x e }

-- ---- indices

pub position_below : {A : Type 0} (test : A → Bool) (xs : List A) (n : ℕ)
    → position test xs ≡ Some n
    → n < length xs
position_below test xs n e = go (nat_lt (position_or_len test xs) (length xs)) refl e
  where
    go : (b : Bool) → nat_lt (position_or_len test xs) (length xs) ≡ b
        → cond b (Some (position_or_len test xs)) None ≡ Some n → n < length xs
    go true lt e =
        let same : position_or_len test xs ≡ n = cc in
        let below : position_or_len test xs < length xs = grind (arith, nat_tests, lt) in
        omega arith
    go false lt e = absurd cc

index_below : (known : List Known) (d : Data) (n : ℕ) → index_data known d ≡ Some n
    → n < length known
unfolding index_data
index_below known d n e =
    let c = came (index_found known) (id_data d) n e in
    position_below (λ k. bytes_eq k.id c.value) known n c.made

indices_below : (known : List Known) (ds : Items) (ns : List ℕ) → indices_among known ds ≡ Some ns
    → AllByRecursion (λ n. n < length known) ns
indices_below known no_items ns e =
    let same : [] ≡ ns = cc in
    let P : List ℕ → Type 0 = AllByRecursion (λ n. n < length known) in
    subst P same tt
indices_below known (item d ds) ns e =
    let c = came (λ n. option_map (λ more. n ∷ more) (indices_among known ds)) (index_data known d)
    ns
    e in
    go c.value (index_below known d c.value c.given) (indices_among known ds) refl c.made
    (λ more h. indices_below known ds more h)
  where
    go : (n : ℕ) → n < length known → (o : Option (List ℕ)) → indices_among known ds ≡ o
        → option_map (λ more. n ∷ more) o ≡ Some ns
        → ((more : List ℕ) → indices_among known ds ≡ Some more
        → AllByRecursion (λ n. n < length known) more)
        → AllByRecursion (λ n. n < length known) ns
    go n below None is e later = absurd cc
    go n below (Some more) is e later =
        let same : n ∷ more ≡ ns = cc in
        let P : List ℕ → Type 0 = AllByRecursion (λ n. n < length known) in
        subst P same (below, later more is)

-- ---- rules

pub record AreIndices (known : ℕ) (ns : List ℕ) : Type 0 where
  pub below : AllByRecursion (λ n. n < known) ns
  pub differ : IsDistinct is_same_index ns

apart : (known : ℕ) (ns : List ℕ) (ms : List ℕ) → if_different known ns ≡ Some ms
    → (ns ≡ ms) × IsDistinct is_same_index ns
apart known ns ms e =
    go (nat_le (length ns) known && not (has_repeat is_same_index ns)) refl e
  where
    go : (b : Bool) → (nat_le (length ns) known && not (has_repeat is_same_index ns)) ≡ b
        → cond b (Some ns) None ≡ Some ms → (ns ≡ ms) × IsDistinct is_same_index ns
    go true test e =
        let parts = and_parts (nat_le (length ns) known) (not (has_repeat is_same_index ns)) test in
        (cc, different is_same_index ns (not-true (has_repeat is_same_index ns) parts.1))
    go false test e = absurd cc

indices_are : (known : List Known) (d : Data) (ns : List ℕ) → indices_data known d ≡ Some ns
    → AreIndices (length known) ns
unfolding indices_data
indices_are known d ns e =
    let c = came (if_different (length known)) (option_and_then (indices_among known) (as_array d))
    ns
    e in
    let b = came (indices_among known) (as_array d) c.value c.given in
    let a = apart (length known) c.value ns c.made in
    let P : List ℕ → Type 0 = AreIndices (length known) in
    let found : AreIndices (length known) c.value =
    record { below = indices_below known b.value c.value b.made; differ = a.1 } in
    subst P a.0 found

count_is : (most : ℕ) (d : Data) (n : ℕ) → count_data most d ≡ Some n → (1 ≤ n) × (n ≤ most)
unfolding count_data
count_is most d n e =
    let c = came (if_counts most) (number_data d) n e in
    go c.value c.made
  where
    go : (m : ℕ) → if_counts most m ≡ Some n → (1 ≤ n) × (n ≤ most)
    go m e = case (nat_le 1 m && nat_le m most) refl e
      where
        case : (b : Bool) → (nat_le 1 m && nat_le m most) ≡ b
            → cond b (Some m) None ≡ Some n → (1 ≤ n) × (n ≤ most)
        case true test e =
            let same : m ≡ n = cc in
            let parts = and_parts (nat_le 1 m) (nat_le m most) test in
            let low : 1 ≤ m = grind (arith, nat_tests, parts.0) in
            let high : m ≤ most = grind (arith, nat_tests, parts.1) in
            (omega arith, omega arith)
        case false test e = absurd cc

rule_is : (known : List Known) (d : Data) (r : Rule) → rule_data known d ≡ Ok r
    → IsRule (length known) r
unfolding rule_data
rule_is known d r e =
    let a = bind_ok (table_with rule_keys d) (λ (ms : Members).
    store_field Cosigners (indices_data known) (get_member (codes "cosigners") ms) >>= λ indices.
    store_field Count (count_data (length indices)) (get_member (codes "count") ms) >>= λ count.
    Ok (record { count = count; cosigners = indices })) r e in
    let ms : Members = a.0 in
    let b = bind_ok (store_field Cosigners (indices_data known) (get_member (codes "cosigners") ms))
    (λ (indices : List ℕ).
    store_field Count (count_data (length indices)) (get_member (codes "count") ms) >>= λ count.
    Ok (record { count = count; cosigners = indices })) r a.2 in
    let indices : List ℕ = b.0 in
    let g = bind_ok (store_field Count (count_data (length indices))
    (get_member (codes "count") ms)) (λ (count : ℕ).
    Ok (record { count = count; cosigners = indices })) r b.2 in
    let from = field_is Cosigners (indices_data known) (get_member (codes "cosigners") ms) indices
    b.1 in
    let number = field_is Count (count_data (length indices)) (get_member (codes "count") ms) g.0
    g.1 in
    let are = indices_are known from.from indices from.says in
    let is = count_is (length indices) number.from g.0 number.says in
    let made : Rule = record { count = g.0; cosigners = indices } in
    let same : made ≡ r = ok_is StoreError made r g.2 in
    let P : Rule → Type 0 = IsRule (length known) in
    let rule : IsRule (length known) made = record {
      indices = are.below;
      different = are.differ;
      some = is.0;
      most = is.1;
    } in
    subst P same rule

pub each_is : (known : List Known) (ds : Items) (rules : List Rule)
    → each_of (rule_data known) ds ≡ Ok rules → AllByRecursion (IsRule (length known)) rules
each_is known no_items rules e =
    let same : [] ≡ rules = cc in
    let P : List Rule → Type 0 = AllByRecursion (IsRule (length known)) in
    subst P same tt
each_is known (item d ds) rules e =
    let a = bind_ok (rule_data known d) (λ (r : Rule). each_of (rule_data known) ds >>= λ rs.
    Ok (r ∷ rs)) rules e in
    let b = bind_ok (each_of (rule_data known) ds) (λ (rs : List Rule). Ok (a.0 ∷ rs)) rules a.2 in
    let same : a.0 ∷ b.0 ≡ rules = ok_is StoreError (a.0 ∷ b.0) rules b.2 in
    let P : List Rule → Type 0 = AllByRecursion (IsRule (length known)) in
    subst P same (rule_is known d a.0 a.1, each_is known ds b.0 b.1)
