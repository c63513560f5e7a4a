-- Items of an array, and the list that they represent.
use Rattle.std.proofs.Common.{◌≡◌, ℕ, zero, suc, ◌+◌, ◌<◌, List, [], ◌∷◌, ◌++◌, length, get_or}
use Rattle.std.proofs.Common.{drop, Option, Some, None, option_map, refl, ap, sym, ◌∙◌}
use Rattle.std.proofs.Common.{append_assoc, arith}
use Rattle.std.proofs.lemmas.List.{at_drop_more}
use Rattle.std.specs.List.{AllByRecursion}
use Rattle.std.specs.Option.{option_and_then}
use Rattle.byte_formats.specs.Types.{Text}
use Rattle.toml.specs.View.{items_view, view}
use Rattle.toml.specs.declared.value.Value.{Value}
use Rattle.authority_core.specs.Files.{host_data, hosts_in, item_count}

pub items_seen : (vs : List Value) → item_count (items_view vs) ≡ length vs
items_seen [] = refl
items_seen (v ∷ vs) = grind (arith, items_seen vs)

pub AllByRecursion-push : {X : Type 0} (P : X → Type 0) (xs : List X) (x : X) → AllByRecursion P xs
    → P x → AllByRecursion P (xs ++ x ∷ [])
AllByRecursion-push P [] x all this = (this, tt)
AllByRecursion-push P (y ∷ ys) x all this = (all.0, AllByRecursion-push P ys x all.1 this)

pub AllByRecursion-at : {X : Type 0} (P : X → Type 0) (xs : List X) (i : ℕ) (d : X) → i < length xs
    → AllByRecursion P xs → P (get_or xs i d)
AllByRecursion-at P [] i d within all = absurd (omega arith)
AllByRecursion-at P (x ∷ xs) zero d within all = all.0
AllByRecursion-at P (x ∷ xs) (suc i) d within all = AllByRecursion-at P xs i d (omega arith) all.1

-- ---- the names of a list of values, one by one

one_more : (names : List Text) (name : Text) (rest : Option (List Text))
    → option_map (λ list. (names ++ name ∷ []) ++ list) rest
    ≡ option_map (λ list. names ++ list) (option_map (λ list. name ∷ list) rest)
one_more names name None = refl
one_more names name (Some list) = rw append_assoc

module _ (vs : List Value) (i : ℕ) (v : Value) (names : List Text) (within : i < length vs)
    (here : v ≡ get_or vs i v) (whole : option_map (λ rest. names ++ rest)
    (hosts_in (items_view (drop i vs))) ≡ hosts_in (items_view vs)) where
  this_one : (o : Option Text) → o ≡ host_data (view v)
      → option_map (λ rest. names ++ rest) (option_and_then (λ name. option_map
      (λ list. name ∷ list) (hosts_in (items_view (drop (i + 1) vs)))) o)
      ≡ hosts_in (items_view vs)
  this_one o read =
      ap (λ (p : Option Text). option_map (λ rest. names ++ rest) (option_and_then (λ name.
      option_map (λ list. name ∷ list) (hosts_in (items_view (drop (i + 1) vs)))) p))
      (read ∙ ap (λ (w : Value). host_data (view w)) here)
      ∙ sym (at_drop_more (λ (xs : List Value). option_map (λ rest. names ++ rest)
      (hosts_in (items_view xs))) vs i v within)
      ∙ whole

  -- a value that is no host name
  pub hosts_not : None ≡ host_data (view v) → None ≡ hosts_in (items_view vs)
  hosts_not read = this_one None read

  -- and one that is
  pub hosts_next : (name : Text) → Some name ≡ host_data (view v)
      → option_map (λ rest. (names ++ name ∷ []) ++ rest)
      (hosts_in (items_view (drop (i + 1) vs))) ≡ hosts_in (items_view vs)
  hosts_next name read =
      one_more names name (hosts_in (items_view (drop (i + 1) vs))) ∙ this_one (Some name) read
