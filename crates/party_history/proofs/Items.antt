-- A log keeps its items whatever records follow its own.
use Rattle.std.proofs.Common.{◌≡◌, ℕ, zero, suc, ◌+◌, List, [], ◌∷◌, ◌++◌, length, slice_get}
use Rattle.std.proofs.Common.{Some, None, option_map, Ok, ap, sym}
use Rattle.std.specs.Prelude.{map}
use Rattle.std.proofs.Common.{◌∙◌, subst, append_assoc, arith}
use Rattle.std.proofs.lemmas.List.{length-map}
use Rattle.byte_formats.specs.Types.{HashFunction, Text}
use Rattle.journal_core.proofs.Folds.{state_more}
use Rattle.issuance_log.specs.Folds.{LogState, log_fold, log_of, new_log}
use Rattle.issuance_log.specs.Records.{added_items, item_in}
use Rattle.issuance_log.specs.Shown.{recorded_items}
use Rattle.issuance_log.proofs.After.{HasItems, following_items, entries_of, keys_of, later_items}
use Rattle.issuance_log.proofs.After.{only_begins}
use Rattle.issuance_log.proofs.Steps.{items_of_entry}
use Rattle.party_history.specs.Laws.{HasItemAt, KeepsItems}
use Rattle.party_history.proofs.Chains.{at_seam}

-- the items of the records that follow stand after its own
items_after : (h : HashFunction) (list more : List Text) (s t : LogState)
    → log_of h list ≡ Ok s → log_of h (list ++ more) ≡ Ok t → HasItems s t (later_items more)
items_after h list more s t is whole =
    following_items h (length list) s t more (sym (state_more (log_fold h) list more s is) ∙ whole)

pub items_kept : (h : HashFunction) (list more : List Text) (s t : LogState)
    → log_of h list ≡ Ok s → log_of h (list ++ more) ≡ Ok t → KeepsItems s t
items_kept h list more s t is whole =
    let has = items_after h list more s t is whole in record {
      entries = (entries_of (later_items more), sym has.entries);
      keys = (keys_of (later_items more), sym has.keys);
    }

-- each item has a key
even_log : (h : HashFunction) (list : List Text) (s : LogState) → log_of h list ≡ Ok s
    → length s.keys ≡ length s.entries
even_log h list s is =
    let begun = only_begins h list s is in
    let items : List (Text × Text) = recorded_items (begun.0 ∷ begun.1.0) in
    let has = following_items h 1 (new_log s.settings) s begun.1.0 begun.1.1.2 in
    let entries : s.entries ≡ entries_of items = has.entries in
    let keys : s.keys ≡ keys_of items = has.keys in
    ap (λ (l : List Text). length l) keys ∙ length-map items (λ item. item.1)
    ∙ sym (ap (λ (l : List Text). length l) entries ∙ length-map items (λ item. item.0))

-- an item that is added stands right after those before it
pub item_added : (h : HashFunction) (list : List Text) (body : Text) (more : List Text)
    (entry key : Text) (s t : LogState) → log_of h list ≡ Ok s → item_in body ≡ Some (entry, key)
    → log_of h ((list ++ body ∷ []) ++ more) ≡ Ok t → HasItemAt (length s.entries) entry key t
item_added h list body more entry key s t is same whole =
    let joined = ap (λ (l : List Text). log_of h l) (append_assoc list (body ∷ []) more) in
    let has = items_after h list (body ∷ more) s t is (sym joined ∙ whole) in
    let items : later_items (body ∷ more) ≡ (entry, key) ∷ later_items more
    = ap (λ l. l ++ later_items more) (items_of_entry body (entry, key) same) in
    record {
      entry_is = ap (λ (l : List Text). slice_get l (length s.entries))
          (has.entries ∙ ap (λ i. s.entries ++ entries_of i) items)
          ∙ at_seam s.entries entry (entries_of (later_items more));
      key_is = subst (λ n. slice_get t.keys n ≡ Some key) (even_log h list s is)
          (ap (λ (l : List Text). slice_get l (length s.keys))
          (has.keys ∙ ap (λ i. s.keys ++ keys_of i) items)
          ∙ at_seam s.keys key (keys_of (later_items more)));
    }

-- one of some items, whatever follows them
in_prefix : (f : Text × Text → Text) (items later : List (Text × Text)) (i : ℕ) (x : Text × Text)
    → slice_get items i ≡ Some x → slice_get (map f (items ++ later)) i ≡ Some (f x)
in_prefix f [] later i x is = let wrong : None ≡ Some x = is in absurd cc
in_prefix f (y ∷ items) later zero x is = ap (option_map f) is
in_prefix f (y ∷ items) later (suc i) x is = in_prefix f items later i x is

-- and whatever stands before
past_prefix : (before list : List Text) (i : ℕ) (x : Text) → slice_get list i ≡ Some x
    → slice_get (before ++ list) (length before + i) ≡ Some x
past_prefix [] list i x is =
    let same : i ≡ length {A = Text} [] + i = omega arith in
    subst (λ (n : ℕ). slice_get list n ≡ Some x) same is
past_prefix (first ∷ before) list i x is =
    let same : suc (length before + i) ≡ length (first ∷ before) + i = omega arith in
    subst (λ (n : ℕ). slice_get (first ∷ (before ++ list)) n ≡ Some x) same
    (past_prefix before list i x is)

-- each item of a record that adds any stands after those before it, in its order
pub each_added : (h : HashFunction) (list : List Text) (body : Text) (more : List Text) (i : ℕ)
    (entry key : Text) (s t : LogState) → log_of h list ≡ Ok s
    → slice_get (added_items body) i ≡ Some (entry, key)
    → log_of h ((list ++ body ∷ []) ++ more) ≡ Ok t → HasItemAt (length s.entries + i) entry key t
each_added h list body more i entry key s t is there whole =
    let joined = ap (λ (l : List Text). log_of h l) (append_assoc list (body ∷ []) more) in
    let has = items_after h list (body ∷ more) s t is (sym joined ∙ whole) in
    let later = later_items more in
    record {
      entry_is = ap (λ (l : List Text). slice_get l (length s.entries + i)) has.entries
          ∙ past_prefix s.entries (entries_of (added_items body ++ later)) i entry
          (in_prefix (λ x. x.0) (added_items body) later i (entry, key) there);
      key_is = subst (λ (n : ℕ). slice_get t.keys (n + i) ≡ Some key) (even_log h list s is)
          (ap (λ (l : List Text). slice_get l (length s.keys + i)) has.keys
          ∙ past_prefix s.keys (keys_of (added_items body ++ later)) i key
          (in_prefix (λ x. x.1) (added_items body) later i (entry, key) there));
    }
