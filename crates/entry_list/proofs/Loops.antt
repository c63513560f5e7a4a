-- Reading items up to the end: those that were read and those that are left make the whole.
use Rattle.std.proofs.Common.{◌≡◌, ◌≢◌, ℕ, zero, suc, ◌-◌, ◌<◌, ◌≤◌, true, List, [], ◌∷◌}
use Rattle.std.proofs.Common.{◌++◌, length, get_or, Result, Ok, Err, refl, sym, ap, subst, ◌∙◌}
use Rattle.std.proofs.Common.{append-nil, append_assoc, arith, ne_eqb, eq-eqb, ⊎_elim}
use Rattle.std.specs.Prelude.{if◌then◌else◌}
use Rattle.std.proofs.lemmas.Bool.{cases_lt}
use Rattle.std.proofs.lemmas.List.{get_or-append_right, get_or_append_left}
use Rattle.std.proofs.lemmas.List.{length-append, length-map, map-append}
use Rattle.byte_formats.specs.Types.{HashFunction, Text}
use Rattle.byte_formats.specs.Offsets.{At, at}
use Rattle.byte_formats.specs.Readings.{◌>>=◌, both_at}
use Rattle.byte_formats.specs.Lists.{each_at}
use Rattle.byte_formats.proofs.Steps.{bind_ok, ok_is, pass_ok}
use Rattle.entry_list.specs.Items.{AreItems, ItemLists, is_key_of, lists_of}
use Rattle.entry_list.specs.Reading.{listed_at, item_after, all_listed_at, items_in, vector_item}
use Rattle.entry_list.specs.declared.error.ItemsError.{ItemsError}
use Rattle.entry_list.specs.declared.error.ItemsError.TheVariants.{BadItem}

-- ---- items, one after the other

pub item_belongs : (h : HashFunction) (n : ℕ) (a : At) (entry key : Text) (b : At)
    → listed_at h n a ≡ Ok ((entry, key), b) → is_key_of h entry key ≡ true
unfolding listed_at
item_belongs h n a entry key b e =
    let s = bind_ok (both_at vector_item vector_item a) (λ (x : (Text
    × Text) × At). if is_key_of h x.0.0 x.0.1 then Ok x else Err (BadItem n)) ((entry, key), b) e in
    let g = pass_ok (is_key_of h s.0.0.0 s.0.0.1) (Ok s.0) (BadItem n) ((entry, key), b) s.2 in
    subst (λ (x : (Text × Text) × At). is_key_of h x.0.0 x.0.1 ≡ true)
    (ok_is ItemsError s.0 ((entry, key), b) g.1) g.0

pub no_items : (h : HashFunction) → AreItems h (lists_of [])
no_items h = record { even = refl; each = λ i below. absurd (omega arith) }

abbrev pub with_item : ItemLists → Text → Text → ItemLists
with_item items entry key =
    record { entries = items.entries ++ entry ∷ []; keys = items.keys ++ key ∷ [] }

pub more_items : (h : HashFunction) (items : ItemLists) (entry key : Text) → AreItems h items
    → is_key_of h entry key ≡ true → AreItems h (with_item items entry key)
more_items h items entry key are one = record {
  even = omega (
    arith,
    are.even,
    length-append items.entries (entry ∷ []),
    length-append items.keys (key ∷ []),
  );
  each = λ i below. each_one i below;
}
  where
    P : Text → Text → Type 0
    P e k = is_key_of h e k ≡ true

    each_one : (i : ℕ) → i < length (items.entries ++ entry ∷ [])
        → is_key_of h (get_or (items.entries ++ entry ∷ []) i [])
        (get_or (items.keys ++ key ∷ []) i [])
        ≡ true
    each_one i below =
        ⊎_elim (λ (inside : i < length items.entries).
        let other : i < length items.keys = omega (arith, are.even) in
        rw (
          get_or_append_left items.entries (entry ∷ []) [] i inside,
          get_or_append_left items.keys (key ∷ []) [] i other,
        ) (are.each i inside)) (λ (outside : length items.entries ≤ i).
        let last : i ≡ length items.entries = omega (
          arith,
          length-append items.entries (entry ∷ []),
        ) in
        let none : i - length items.entries ≡ 0 = omega arith in
        let nought : i - length items.keys ≡ 0 = omega (arith, are.even) in
        let other : length items.keys ≤ i = omega (arith, are.even) in
        rw (
          get_or-append_right items.entries (entry ∷ []) (length items.entries) i [] refl
              outside,
          get_or-append_right items.keys (key ∷ []) (length items.keys) i [] refl other,
          none,
          nought,
        ) one) (cases_lt i (length items.entries))

-- ---- the loop

-- What is left gives these items more.
abbrev following : List (Text × Text) → Result (List (Text × Text) × At) ItemsError
    → Result ItemLists ItemsError
following seen r = r >>= λ (xs : List (Text × Text) × At). Ok (lists_of (seen ++ xs.0))

abbrev itself : Text × Text → Text × Text
itself x = x

-- These items were read, and reading on from here gives what the whole gives.
pub record ItemsLeft (h : HashFunction) (total : Result ItemLists ItemsError)
    (items : ItemLists) (a : At) : Type 0 where
  pub seen : List (Text × Text)
  pub same : items ≡ lists_of seen
  pub right : AreItems h items
  pub fuel : ℕ
  pub enough : length a.rest ≤ fuel
  pub rest : following seen (each_at itself (item_after h) fuel seen a) ≡ total

items_first : (h : HashFunction) (bytes : Text)
    → ItemsLeft h (items_in h bytes) (lists_of []) (at bytes 0)
unfolding items_in all_listed_at
items_first h bytes = record {
  seen = [];
  same = refl;
  right = no_items h;
  fuel = length (at bytes 0).rest;
  enough = omega arith;
  rest = refl;
}

pub items_from : (h : HashFunction) (bytes : Text) (items : ItemLists) (a : At)
    → items ≡ lists_of [] → a ≡ at bytes 0 → ItemsLeft h (items_in h bytes) items a
items_from h bytes items a none first =
    let P : ItemLists → Type 0 = λ l. ItemsLeft h (items_in h bytes) l a in
    subst P (sym none) (subst (λ (b : At). ItemsLeft h (items_in h bytes) (lists_of []) b)
    (sym first) (items_first h bytes))

following_one : (seen : List (Text × Text)) (x : Text × Text)
    (r : Result (List (Text × Text) × At) ItemsError)
    → following seen (r >>= λ (xs : List (Text × Text) × At). Ok (x ∷ xs.0, xs.1))
    ≡ following (seen ++ x ∷ []) r
following_one seen x (Ok xs) = ap (λ (l : List (Text × Text)). Ok (lists_of l))
    (sym (append_assoc seen (x ∷ []) xs.0))
following_one seen x (Err e) = refl

step_more : (h : HashFunction) (n : ℕ) (seen : List (Text × Text)) (a : At) (x : Text × Text)
    (b : At) → listed_at h (length seen) a ≡ Ok (x, b) → length a.rest ≢ 0
    → following seen (each_at itself (item_after h) (suc n) seen a)
    ≡ following (seen ++ x ∷ []) (each_at itself (item_after h) n (seen ++ x ∷ []) b)
unfolding each_at
step_more h n seen a x b step some =
    rw (
      ne_eqb (length a.rest) 0 some,
      step,
    ) (following_one seen x (each_at itself (item_after h) n (seen ++ x ∷ []) b))

step_fails : (h : HashFunction) (n : ℕ) (seen : List (Text × Text)) (a : At) (e : ItemsError)
    → listed_at h (length seen) a ≡ Err e → length a.rest ≢ 0
    → following seen (each_at itself (item_after h) (suc n) seen a) ≡ Err e
unfolding each_at
step_fails h n seen a e step some = rw (ne_eqb (length a.rest) 0 some, step) refl

step_ends : (h : HashFunction) (n : ℕ) (seen : List (Text × Text)) (a : At) → length a.rest ≡ 0
    → following seen (each_at itself (item_after h) n seen a) ≡ Ok (lists_of seen)
unfolding each_at
step_ends h zero seen a none = ap (λ (l : List (Text × Text)). Ok (lists_of l)) (append-nil seen)
step_ends h (suc n) seen a none =
    rw (eq-eqb (length a.rest) 0 none) (ap (λ (l : List (Text × Text)). Ok (lists_of l))
    (append-nil seen))

counted : (items : ItemLists) (seen : List (Text × Text)) → items ≡ lists_of seen
    → length items.entries ≡ length seen
counted items seen same = ap (λ (l : ItemLists). length l.entries) same
    ∙ length-map seen (λ (x : Text × Text). x.0)

-- One item more is read.
pub items_more : (h : HashFunction) (total : Result ItemLists ItemsError) (items next : ItemLists)
    (a : At) (n : ℕ) (entry key : Text) (b : At) → n ≡ length items.entries
    → listed_at h n a ≡ Ok ((entry, key), b) → length b.rest < length a.rest
    → next ≡ with_item items entry key
    → ItemsLeft h total items a → ItemsLeft h total next b
items_more h total items next a n entry key b count step less grown w =
    let long = counted items w.seen w.same in
    let here : listed_at h (length w.seen) a ≡ Ok ((entry, key), b) =
    ap (λ (k : ℕ). listed_at h k a) (sym (count ∙ long)) ∙ step in
    let one = item_belongs h n a entry key b step in
    let lists : next ≡ lists_of (w.seen ++ (entry, key) ∷ []) = grown
    ∙ (ap (λ (l : ItemLists). with_item l entry key) w.same ∙ sym (lists_more w.seen)) in
    go w.fuel w.enough w.rest here one lists
  where
    lists_more : (seen : List (Text × Text))
        → lists_of (seen ++ (entry, key) ∷ []) ≡ with_item (lists_of seen) entry key
    lists_more seen =
        rw (
          map-append (λ (x : Text × Text). x.0) seen ((entry, key) ∷ []),
          map-append (λ (x : Text × Text). x.1) seen ((entry, key) ∷ []),
        ) refl

    go : (f : ℕ) → length a.rest ≤ f → following w.seen (each_at itself (item_after h) f w.seen a)
        ≡ total
        → listed_at h (length w.seen) a ≡ Ok ((entry, key), b)
        → is_key_of h entry key ≡ true
        → next ≡ lists_of (w.seen ++ (entry, key) ∷ []) → ItemsLeft h total next b
    go zero le e here one lists = absurd (omega arith)
    go (suc f) le e here one lists =
        let some : length a.rest ≢ 0 = omega arith in
        record {
          seen = w.seen ++ (entry, key) ∷ [];
          same = lists;
          right = subst (AreItems h) (sym grown) (more_items h items entry key w.right one);
          fuel = f;
          enough = omega arith;
          rest = sym (step_more h f w.seen a (entry, key) b here some) ∙ e;
        }

-- The next item doesn't read.
pub items_fail : (h : HashFunction) (total : Result ItemLists ItemsError) (items : ItemLists)
    (a : At) (n : ℕ) (e : ItemsError) → n ≡ length items.entries → listed_at h n a ≡ Err e
    → 0 < length a.rest → ItemsLeft h total items a → total ≡ Err e
items_fail h total items a n e count step some w =
    let long = counted items w.seen w.same in
    let here : listed_at h (length w.seen) a ≡ Err e =
    ap (λ (k : ℕ). listed_at h k a) (sym (count ∙ long)) ∙ step in
    go w.fuel w.enough w.rest here
  where
    go : (f : ℕ) → length a.rest ≤ f → following w.seen (each_at itself (item_after h) f w.seen a)
        ≡ total → listed_at h (length w.seen) a ≡ Err e → total ≡ Err e
    go zero le so_far here = absurd (omega arith)
    go (suc f) le so_far here =
        let other : length a.rest ≢ 0 = omega arith in
        sym so_far ∙ step_fails h f w.seen a e here other

-- Nothing is left.
pub items_end : (h : HashFunction) (total : Result ItemLists ItemsError) (items : ItemLists)
    (a : At) → length a.rest ≤ 0 → ItemsLeft h total items a → total ≡ Ok items
items_end h total items a none w =
    let end : length a.rest ≡ 0 = omega arith in
    sym w.rest
    ∙ (step_ends h w.fuel w.seen a end ∙ ap (λ (l : ItemLists). Ok l) (sym w.same))
