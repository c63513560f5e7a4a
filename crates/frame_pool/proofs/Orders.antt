-- Orders of slots.
use Rattle.std.proofs.Common.{◌≡◌, ℕ, ◌+◌, ◌-◌, ◌<◌, ◌≤◌, ⊎_elim, List, [], ◌∷◌, ◌++◌, length}
use Rattle.std.proofs.Common.{get_or, sym, ◌∙◌, ap, subst, arith, eqb}
use Rattle.std.proofs.Common.{Bool, true, false, Some, None}
use Rattle.std.specs.List.{All, Contains, position, position_or_len, remove}
use Rattle.std.proofs.Math.ListN.{get_or-append}
use Rattle.std.proofs.Math.Seq.{get_or-append_seam}
use Rattle.std.proofs.lemmas.Bool.{cases_eq, cases_lt, cond-false, cond-true, eq-eqb, eqb-true}
use Rattle.std.proofs.lemmas.Bool.{false≢true, le-ltb, lt-ltb}
use Rattle.std.proofs.lemmas.List.{length_push}
use Rattle.std.proofs.lemmas.List.Edits.{get_or-remove_above, get_or-remove_below, length-remove}
use Rattle.std.proofs.lemmas.List.Elements.{All-push}
use Rattle.std.proofs.lemmas.List.Sums.{fails_before_first, passes_at_first}
use Rattle.frame_pool.specs.Order.{moved_last}

-- the index of a slot in an order that has it
pub place-within : (slot : ℕ) (order : List ℕ) → Contains order slot
    → position_or_len (λ at. eqb at slot) order < length order
place-within slot order has =
    ⊎_elim
    (λ (less : position_or_len (λ at. eqb at slot) order < length order). less)
    (λ (past : length order ≤ position_or_len (λ at. eqb at slot) order).
    let inside = has.1 in
    let no : eqb (get_or order has.0 slot) slot ≡ false =
    fails_before_first (λ at. eqb at slot) order has.0 slot (omega arith) in
    let yes : eqb (get_or order has.0 slot) slot ≡ true = eq-eqb _ _ has.2 in
    absurd (false≢true (sym no ∙ yes)))
    (cases_lt (position_or_len (λ at. eqb at slot) order) (length order))

pub place-is : (p : ℕ → Bool) (order : List ℕ) (place : ℕ) → Some place ≡ position p order
    → place ≡ position_or_len p order
place-is p order place is =
    ⊎_elim
    (λ (less : position_or_len p order < length order).
    let here : Some place ≡ Some (position_or_len p order) =
    is ∙ cond-true _ _ _ (lt-ltb _ _ less) in cc)
    (λ (past : length order ≤ position_or_len p order).
    let none : Some place ≡ None = is ∙ cond-false _ _ _ (le-ltb _ _ past) in cc)
    (cases_lt (position_or_len p order) (length order))

pub place-some : (slot : ℕ) (order : List ℕ) → Contains order slot
    → None ≡ position (λ at. eqb at slot) order → ⊥
place-some slot order has none =
    let is : None ≡ Some (position_or_len (λ at. eqb at slot) order) =
    none ∙ cond-true _ _ _ (lt-ltb _ _ (place-within slot order has)) in cc

pub length-moved : (slot : ℕ) (order : List ℕ) → Contains order slot
    → length (moved_last slot order) ≡ length order
length-moved slot order has =
    let within = place-within slot order has in
    let less = length-remove order (position_or_len (λ at. eqb at slot) order) within in
    let more = length_push (remove order (position_or_len (λ at. eqb at slot) order)) slot in
    omega arith

-- each slot stays but the one at the removed index
contains-removed : (xs : List ℕ) (place k x : ℕ) → place < length xs → k < length xs
    → get_or xs k x ≡ x → (k ≡ place → ⊥) → Contains (remove xs place) x
contains-removed xs place k x inside within is other =
    let size = length-remove xs place inside in
    ⊎_elim
    (λ (below : k < place).
    let here : Contains (remove xs place) x =
    (k, omega arith, get_or-remove_below xs place x k below inside ∙ is) in here)
    (λ (from : place ≤ k).
    let back : (k - 1) + 1 ≡ k = omega arith in
    let here : Contains (remove xs place) x = (
      k - 1,
      omega arith,
      get_or-remove_above xs place x (k - 1) (omega arith) inside
          ∙ ap (λ i. get_or xs i x) back ∙ is,
    ) in here)
    (cases_lt k place)

pub contains-moved : (slot x : ℕ) (order : List ℕ) → Contains order slot → Contains order x
    → Contains (moved_last slot order) x
contains-moved slot x order has contains =
    let place = position_or_len (λ at. eqb at slot) order in
    let within = place-within slot order has in
    let more = length_push (remove order (position_or_len (λ at. eqb at slot) order)) slot in
    ⊎_elim
    (λ (same : x ≡ slot).
    let last : Contains (moved_last slot order) x = (
      length (remove order place),
      omega arith,
      get_or-append_seam (remove order place) slot [] x ∙ sym same,
    ) in last)
    (λ (other : x ≡ slot → ⊥).
    let there : get_or order (position_or_len (λ at. eqb at slot) order) x ≡ slot =
    eqb-true _ _ (passes_at_first (λ at. eqb at slot) order x within) in
    let kept = contains-removed order place contains.0 x within contains.1 contains.2
    (λ is. other (sym contains.2 ∙ ap (λ i. get_or order i x) is ∙ there)) in
    let small = kept.1 in
    let here : Contains (moved_last slot order) x = (
      kept.0,
      omega arith,
      get_or-append (remove order place) (slot ∷ []) x kept.0 kept.1 ∙ kept.2,
    ) in here)
    (cases_eq x slot)

-- what holds of each slot of the order
pub all-moved : (P : ℕ → Type 0) (slot : ℕ) (order : List ℕ) → Contains order slot → P slot
    → All P order → All P (moved_last slot order)
all-moved P slot order has here all =
    let place = position_or_len (λ at. eqb at slot) order in
    let within = place-within slot order has in
    let less = length-remove order (position_or_len (λ at. eqb at slot) order) within in
    All-push P (remove order place) slot
    (λ k d inside.
    ⊎_elim
    (λ (below : k < position_or_len (λ at. eqb at slot) order).
    subst P (sym (get_or-remove_below order place d k below within)) (all k d (omega arith)))
    (λ (from : position_or_len (λ at. eqb at slot) order ≤ k).
    subst P (sym (get_or-remove_above order place d k from within)) (all (k + 1) d (omega arith)))
    (cases_lt k (position_or_len (λ at. eqb at slot) order)))
    here

-- an order that counts up
pub counted-push : (xs : List ℕ) (y : ℕ)
    → ((k d : ℕ) → k < length xs → get_or xs k d ≡ k) → y ≡ length xs
    → (k d : ℕ) → k < length (xs ++ y ∷ []) → get_or (xs ++ y ∷ []) k d ≡ k
counted-push xs y counted is k d inside =
    let more = length_push xs y in
    ⊎_elim
    (λ (below : k < length xs). get_or-append xs (y ∷ []) d k below ∙ counted k d below)
    (λ (from : length xs ≤ k).
    let last : k ≡ length xs = omega arith in
    ap (λ i. get_or (xs ++ y ∷ []) i d) last ∙ get_or-append_seam xs y [] d ∙ is ∙ sym last)
    (cases_lt k (length xs))
