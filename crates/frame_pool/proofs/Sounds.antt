-- Every pool is sound.
use Rattle.std.proofs.Common.{◌≡◌, ℕ, suc, ◌+◌, ◌<◌, ◌≤◌, ⊎_elim, Bool, true, false}
use Rattle.std.proofs.Common.{List, [], ◌∷◌, ◌++◌}
use Rattle.std.proofs.Common.{length, get_or, set, Some, None, sym, ◌∙◌, ap, refl, subst, arith}
use Rattle.std.proofs.Common.{get_or-set_other, get_or-set_same}
use Rattle.std.specs.Prelude.{Option, count_by, filter, is_none, not}
use Rattle.std.specs.List.{All, position, position_or_len}
use Rattle.std.proofs.Math.ListN.{length-set}
use Rattle.std.proofs.lemmas.Bool.{cases_eq, cases_lt, cond-true, false≢true, lt-ltb}
use Rattle.std.proofs.lemmas.List.{get_or_past, length_push}
use Rattle.std.proofs.lemmas.List.Elements.{All-push}
use Rattle.std.proofs.lemmas.List.Quantifiers.{position-Some}
use Rattle.std.proofs.lemmas.List.Sums.{fails_before_first, length-filter}
use Rattle.frame_pool.proofs.Orders.{all-moved, contains-moved, counted-push, length-moved}
use Rattle.frame_pool.specs.Frames.{HasUnpinned, HoldsKey, IsFirstClaimed, IsLeastEmpty, IsNew}
use Rattle.frame_pool.specs.Frames.{IsNextSlot}
use Rattle.frame_pool.specs.Frames.{IsUnheld, PoolState, claimed, key_at, pinned_at}
use Rattle.frame_pool.specs.Sound.{IsSoundPool}
use Rattle.frame_pool.specs.declared.key.TileKey.{TileKey}

-- so many frames of a new pool
pub record AreNew (count : ℕ) (keys : List (Option TileKey)) (pins : List Bool) (order : List ℕ)
    (frames : List (List ℕ)) : Type 0 where
  pub keys_count : length keys ≡ count
  pub pins_count : length pins ≡ count
  pub indices : length order ≡ count
  pub frames_count : length frames ≡ count
  pub empty : All (λ key. key ≡ None) keys
  pub free : All (λ pin. pin ≡ false) pins
  pub counted : (k d : ℕ) → k < length order → get_or order k d ≡ k

pub new-none : (keys : List (Option TileKey)) (pins : List Bool) (order : List ℕ)
    (frames : List (List ℕ)) → length keys ≡ 0 → length pins ≡ 0 → length order ≡ 0
    → length frames ≡ 0 → AreNew 0 keys pins order frames
new-none keys pins order frames no_keys no_pins no_indices no_frames = record {
  keys_count = no_keys;
  pins_count = no_pins;
  indices = no_indices;
  frames_count = no_frames;
  empty = λ k d inside. let none : ⊥ = omega arith in absurd none;
  free = λ k d inside. let none : ⊥ = omega arith in absurd none;
  counted = λ k d inside. let none : ⊥ = omega arith in absurd none;
}

pub new-more : (count : ℕ) (keys : List (Option TileKey)) (pins : List Bool) (order : List ℕ)
    (frames : List (List ℕ)) (frame : List ℕ) → AreNew count keys pins order frames
    → AreNew (count + 1) (keys ++ None ∷ []) (pins ++ false ∷ []) (order ++ count ∷ [])
    (frames ++ frame ∷ [])
new-more count keys pins order frames frame are =
    let one = length_push keys None in
    let two = length_push pins false in
    let three = length_push order count in
    let four = length_push frames frame in
    let k_count = are.keys_count in
    let p_count = are.pins_count in
    let o_count = are.indices in
    let f_count = are.frames_count in
    record {
      keys_count = omega arith;
      pins_count = omega arith;
      indices = omega arith;
      frames_count = omega arith;
      empty = All-push (λ key. key ≡ None) keys None are.empty refl;
      free = All-push (λ pin. pin ≡ false) pins false are.free refl;
      counted = counted-push order count are.counted (sym o_count);
    }

-- what holds of each element, and of the default for those past the end
each_or : {X : Type 0} (xs : List X) (d : X) (slot : ℕ) → All (λ x. x ≡ d) xs → get_or xs slot d ≡ d
each_or xs d slot all =
    ⊎_elim
    (λ (inside : slot < length xs). all slot d inside)
    (λ (past : length xs ≤ slot). get_or_past xs slot d past)
    (cases_lt slot (length xs))

pub new-is : (count : ℕ) (pool : PoolState)
    → AreNew count pool.keys pool.pins pool.order pool.frames → IsNew count pool
new-is count pool are = record {
  count = are.keys_count;
  empty = λ slot. each_or pool.keys None slot are.empty;
  free = λ slot. each_or pool.pins false slot are.free;
}

pub sound-new : (count : ℕ) (pool : PoolState) → 1 ≤ count → count ≤ 65536
    → AreNew count pool.keys pool.pins pool.order pool.frames → IsSoundPool pool
sound-new count pool some few are =
    let k_count = are.keys_count in
    let o_count = are.indices in
    record {
      some = omega arith;
      few = omega arith;
      pins = are.pins_count ∙ sym k_count;
      frames = are.frames_count ∙ sym k_count;
      indices = o_count ∙ sym k_count;
      order = λ slot inside.
          let here : slot < length pool.order = omega arith in
          (slot, here, are.counted slot slot here);
      slots = λ k d inside.
          subst (λ s. s < length pool.keys) (sym (are.counted k d inside)) (omega arith);
      distinct = λ one other key first second is same.
          let none : None ≡ Some key = sym (each_or pool.keys None one are.empty) ∙ is in cc;
      empty = λ slot none. each_or pool.pins false slot are.free;
    }

-- The slot that a claim takes.

not-none : (held : Option TileKey) → is_none held ≡ false → held ≡ None → ⊥
not-none held some none = false≢true (sym some ∙ ap is_none none)

none-is : (held : Option TileKey) → is_none held ≡ true → held ≡ None
none-is None is = refl
none-is (Some key) is = absurd (false≢true is)

pub least-empty : (pool : PoolState) (slot : ℕ) → Some slot ≡ position is_none pool.keys
    → IsLeastEmpty pool slot
least-empty pool slot is =
    let first = position-Some is_none pool.keys slot None (sym is) in
    record {
      there = first.0;
      empty = none-is (key_at pool slot) first.1;
      least = λ before less. not-none (key_at pool before) (first.2 before less);
    }

all-held : (keys : List (Option TileKey)) → None ≡ position is_none keys → (each : ℕ)
    → each < length keys → get_or keys each None ≡ None → ⊥
all-held keys is each inside =
    ⊎_elim
    (λ (less : position_or_len is_none keys < length keys).
    let some : None ≡ Some (position_or_len is_none keys) =
    is ∙ cond-true _ _ _ (lt-ltb _ _ less) in absurd (cc))
    (λ (past : length keys ≤ position_or_len is_none keys).
    not-none (get_or keys each None)
    (fails_before_first is_none keys each None (omega arith)))
    (cases_lt (position_or_len is_none keys) (length keys))

pub first-claimed : (pool : PoolState) (place : ℕ) → None ≡ position is_none pool.keys
    → place < length pool.order → pinned_at pool (get_or pool.order place 0) ≡ false
    → ((before : ℕ) → before < place → pinned_at pool (get_or pool.order before 0) ≡ true)
    → IsFirstClaimed pool (get_or pool.order place 0)
first-claimed pool place full inside free first = record {
  full = all-held pool.keys full;
  place = place;
  there = inside;
  is = refl;
  free = free;
  first = first;
}

pub next-there : (pool : PoolState) (slot : ℕ) → IsSoundPool pool → IsNextSlot pool slot
    → slot < length pool.keys
next-there pool slot sound next =
    ⊎_elim
    (λ (least : IsLeastEmpty pool slot). least.there)
    (λ (first : IsFirstClaimed pool slot).
    subst (λ s. s < length pool.keys) first.is (sound.slots first.place 0 first.there))
    next

pub next-free : (pool : PoolState) (slot : ℕ) → IsSoundPool pool → IsNextSlot pool slot
    → pinned_at pool slot ≡ false
next-free pool slot sound next =
    ⊎_elim
    (λ (least : IsLeastEmpty pool slot). sound.empty slot least.empty)
    (λ (first : IsFirstClaimed pool slot). first.free)
    next

-- the slot that was found in the lists of a pool
pub record IsTaken (pool : PoolState) (slot : ℕ) : Type 0 where
  pub next : IsNextSlot pool slot
  pub there : slot < length pool.keys
  pub free : pinned_at pool slot ≡ false

pub taken : (pool now : PoolState) (keys : List (Option TileKey)) (pins : List Bool)
    (order : List ℕ) (slot : ℕ) → IsSoundPool pool → pool ≡ now → keys ≡ pool.keys
    → pins ≡ pool.pins → order ≡ pool.order
    → ((frames : List (List ℕ))
    → IsNextSlot (record { keys = keys; pins = pins; order = order; frames = frames }) slot)
    → IsTaken now slot
taken pool now keys pins order slot sound is keys_are pins_are order_is next =
    let found : IsNextSlot pool slot =
    subst (λ o. IsNextSlot (record {
      keys = pool.keys;
      pins = pool.pins;
      order = o;
      frames = pool.frames;
    }) slot) order_is
    (subst (λ p. IsNextSlot (record {
      keys = pool.keys;
      pins = p;
      order = order;
      frames = pool.frames;
    }) slot) pins_are
    (subst (λ k. IsNextSlot (record {
      keys = k;
      pins = pins;
      order = order;
      frames = pool.frames;
    }) slot) keys_are (next pool.frames))) in
    subst (λ p. IsTaken p slot) is (record {
      next = found;
      there = next-there pool slot sound found;
      free = next-free pool slot sound found;
    })

-- where each slot of the order is pinned, none is without a pin
pub all-pinned : (pool : PoolState) → IsSoundPool pool → HasUnpinned pool
    → All (λ slot. pinned_at pool slot ≡ true) pool.order → ⊥
all-pinned pool sound has all =
    let contains = sound.order has.slot has.there in
    let pinned : pinned_at pool (get_or pool.order contains.0 has.slot) ≡ true =
    all contains.0 has.slot contains.1 in
    let here : pinned_at pool has.slot ≡ true =
    ap (pinned_at pool) (sym contains.2) ∙ pinned in
    let free = has.free in
    cc

-- What a call leaves is sound.

pub sound-claimed : (pool : PoolState) (slot : ℕ) (key : TileKey) → IsSoundPool pool
    → IsUnheld pool key → slot < length pool.keys → IsSoundPool (claimed pool slot key)
sound-claimed pool slot key sound unheld inside =
    let some = sound.some in
    let few = sound.few in
    let keys = length-set pool.keys slot (Some key) in
    let pins = length-set pool.pins slot false in
    let p_count = sound.pins in
    let f_count = sound.frames in
    let o_count = sound.indices in
    let has = sound.order slot inside in
    let moved = length-moved slot pool.order has in
    let held : get_or (set pool.keys slot (Some key)) slot None ≡ Some key =
    get_or-set_same pool.keys slot (Some key) None inside in
    let other : (s : ℕ) → (s ≡ slot → ⊥)
    → get_or (set pool.keys slot (Some key)) s None ≡ get_or pool.keys s None =
    λ s ne. get_or-set_other pool.keys slot s (Some key) None ne in
    record {
      some = omega arith;
      few = omega arith;
      pins = omega arith;
      frames = omega arith;
      indices = omega arith;
      order = λ s within. contains-moved slot s pool.order has (sound.order s (omega arith));
      slots = all-moved (λ s. s < length (set pool.keys slot (Some key))) slot pool.order has
          (omega arith) (λ k d within. let old = sound.slots k d within in omega arith);
      distinct = λ one two k first second is same.
          let old_first : one < length pool.keys = omega arith in
          let old_second : two < length pool.keys = omega arith in
          ⊎_elim
          (λ (one_here : one ≡ slot).
          ⊎_elim
          (λ (two_here : two ≡ slot). one_here ∙ sym two_here)
          (λ (two_other : two ≡ slot → ⊥).
          let mine : Some k ≡ Some key =
          sym is ∙ ap (λ s. get_or (set pool.keys slot (Some key)) s None) one_here ∙ held in
          absurd (unheld two old_second (sym (other two two_other) ∙ same ∙ mine)))
          (cases_eq two slot))
          (λ (one_other : one ≡ slot → ⊥).
          ⊎_elim
          (λ (two_here : two ≡ slot).
          let mine : Some k ≡ Some key =
          sym same ∙ ap (λ s. get_or (set pool.keys slot (Some key)) s None) two_here ∙ held in
          absurd (unheld one old_first (sym (other one one_other) ∙ is ∙ mine)))
          (λ (two_other : two ≡ slot → ⊥).
          sound.distinct one two k old_first old_second (sym (other one one_other) ∙ is)
          (sym (other two two_other) ∙ same))
          (cases_eq two slot))
          (cases_eq one slot);
      empty = λ s none.
          ⊎_elim
          (λ (here : s ≡ slot).
          ap (λ i. get_or (set pool.pins slot false) i false) here
          ∙ get_or-set_same pool.pins slot false false (omega arith))
          (λ (ne : s ≡ slot → ⊥).
          get_or-set_other pool.pins slot s false false ne
          ∙ sound.empty s (sym (other s ne) ∙ none))
          (cases_eq s slot);
    }

pub holds-claimed : (pool : PoolState) (slot : ℕ) (key : TileKey) → slot < length pool.keys
    → HoldsKey (claimed pool slot key) slot key
holds-claimed pool slot key inside =
    let keys = length-set pool.keys slot (Some key) in
    record {
      there = omega arith;
      held = get_or-set_same pool.keys slot (Some key) None inside;
    }

-- A frame without a pin, where some are counted.

free-in : (pins : List Bool) → 0 < length (filter not pins)
    → (slot : ℕ) × ((slot < length pins) × (get_or pins slot false ≡ false))
free-in [] some = let none : ⊥ = omega arith in absurd none
free-in (false ∷ pins) some = (0, (omega arith, refl))
free-in (true ∷ pins) some =
    let rest = free-in pins some in
    let inside = rest.1.0 in
    (suc rest.0, (omega arith, rest.1.1))

pub unpinned-some : (pool now : PoolState) → IsSoundPool pool → pool ≡ now
    → 0 < count_by not now.pins
    → HasUnpinned now
unpinned-some pool now sound is some =
    let count : length (filter not pool.pins) ≡ count_by not pool.pins =
    length-filter not pool.pins in
    let same : count_by not pool.pins ≡ count_by not now.pins = ap (λ p. count_by not p.pins) is in
    let found = free-in pool.pins (omega arith) in
    let inside = found.1.0 in
    let pins = sound.pins in
    subst HasUnpinned is (record {
      slot = found.0;
      there = omega arith;
      free = found.1.1;
    })
