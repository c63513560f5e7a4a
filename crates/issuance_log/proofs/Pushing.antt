-- Items that are pushed one by one, as they begin the bytes that are left.
use Rattle.std.proofs.Common.{◌≡◌, ℕ, ◌+◌, ◌^◌, ◌<◌, List, [], ◌∷◌, ◌++◌, length, Option}
use Rattle.std.proofs.Common.{Some}
use Rattle.std.proofs.Common.{None, option_map, refl, ap, sym, subst, ◌∙◌, arith, append_assoc}
use Rattle.std.proofs.Common.{append-nil}
use Rattle.std.specs.Prelude.{map}
use Rattle.std.proofs.lemmas.List.{length-append}
use Rattle.byte_formats.specs.Offsets.{IsBytes}
use Rattle.byte_formats.specs.Types.{Hash, HashFunction, Text}
use Rattle.disk_core.specs.declared.disk.Disk.{Ghosts}
use Rattle.tile_store.specs.Store.{tiles_disk, tiles_stored}
use Rattle.tree_core.specs.Tree.{leaf_hash}
use Rattle.tree_core.specs.declared.hashing.TreeHash.{Ghosts as Hashes}
use Rattle.issuance_log.specs.Batches.{leading_item, leading_items}
use Rattle.issuance_log.specs.ItemOffsets.{places_from}
use Rattle.issuance_log.specs.Items.{HasCapacityOf, HaveTaken, items_leaves, items_offsets}
use Rattle.issuance_log.specs.Items.{items_tiles}
use Rattle.issuance_log.specs.Records.{item_text}
use Rattle.issuance_log.specs.declared.items.Items.{Items}
use Rattle.issuance_log.proofs.Fitting.{length-item}
use Rattle.issuance_log.proofs.Leading.{begins, leading_none, leading_on}

-- the leaves of these items after others
abbrev pub with_leaves : HashFunction → List (Text × Text) → Option (List Hash)
    → Option (List Hash)
with_leaves h items o = option_map (λ list. list ++ map (λ x. leaf_hash h x.0) items) o

leaves_on : (h : HashFunction) (x : Text × Text) (items : List (Text × Text))
    (o : Option (List Hash))
    → with_leaves h items (option_map (λ list. list ++ leaf_hash h x.0 ∷ []) o)
    ≡ with_leaves h (x ∷ items) o
leaves_on h x items None = refl
leaves_on h x items (Some list) =
    ap Some (append_assoc list (leaf_hash h x.0 ∷ []) (map (λ y. leaf_hash h y.0) items))

leaves_none : (h : HashFunction) (o : Option (List Hash)) → with_leaves h [] o ≡ o
leaves_none h None = refl
leaves_none h (Some list) = ap Some (append-nil list)

module _ {H T : Type 0} {hashes : Hashes H} {k : Ghosts T} where
  -- Items that begin the bytes that are left follow the others, as all of them followed the old
  -- ones.
  pub record ArePushed (h : HashFunction) (old : Items H T hashes k) (from : ℕ) (list : Text)
      (items : Items H T hashes k) (place : ℕ) (rest : Text) : Type 0 where
    pub left : IsBytes rest
    pub offsets : items_offsets items ++ places_from place (leading_items rest)
        ≡ items_offsets old ++ places_from from (leading_items list)
    pub leaves : with_leaves h (leading_items rest) (items_leaves items)
        ≡ with_leaves h (leading_items list) (items_leaves old)
    pub capacity : HasCapacityOf (length (leading_items rest)) items
    pub few : length (items_offsets items) + length (leading_items rest) < 2 ^ 32
    pub fits : place + length rest < 2 ^ 64
    pub disk : tiles_disk (items_tiles items) ≡ tiles_disk (items_tiles old)
    pub stored : tiles_stored (items_tiles items) ≡ tiles_stored (items_tiles old)

  -- What a push leaves.
  pub record IsPushed (h : HashFunction) (x : Text × Text) (place : ℕ)
      (items new : Items H T hashes k) : Type 0 where
    pub offsets : items_offsets new ≡ items_offsets items ++ place ∷ []
    pub leaves : items_leaves new
        ≡ option_map (λ list. list ++ leaf_hash h x.0 ∷ []) (items_leaves items)
    pub capacity : (count : ℕ) → HasCapacityOf (count + 1) items → HasCapacityOf count new
    pub disk : tiles_disk (items_tiles new) ≡ tiles_disk (items_tiles items)
    pub stored : tiles_stored (items_tiles new) ≡ tiles_stored (items_tiles items)

  -- before the first
  pub pushed_first : (h : HashFunction) (old : Items H T hashes k) (from : ℕ) (list : Text)
      → IsBytes list → HasCapacityOf (length (leading_items list)) old
      → length (items_offsets old) + length (leading_items list) < 2 ^ 32
      → from + length list < 2 ^ 64 → ArePushed h old from list old from list
  pushed_first h old from list bytes capacity few fits = record {
    left = bytes;
    offsets = refl;
    leaves = refl;
    capacity = capacity;
    few = few;
    fits = fits;
    disk = refl;
    stored = refl;
  }

  module _ (h : HashFunction) (old : Items H T hashes k) (from : ℕ) (list : Text)
      (items : Items H T hashes k) (place : ℕ) (rest : Text)
      (so_far : ArePushed h old from list items place rest) where
    module _ (x : Text × Text) (later : Text)
        (is : leading_item rest ≡ Some (x, later)) where
      on : leading_items rest ≡ x ∷ leading_items later
      on = leading_on rest x later so_far.left is

      pub one_more : length (leading_items rest) ≡ length (leading_items later) + 1
      one_more = ap length on ∙ omega arith

      -- there is capacity for it
      pub push_capacity : HasCapacityOf 1 items
      push_capacity =
          let count = one_more in
          record {
            places = omega (arith, so_far.capacity.places, count);
            leaves = omega (arith, so_far.capacity.leaves, count);
          }

      pub push_few : length (items_offsets items) + 1 < 2 ^ 32
      push_few = omega (arith, so_far.few, one_more)

      -- after it
      pub pushed_on : (new : Items H T hashes k) (next : ℕ) → IsPushed h x place items new
          → next + length later ≡ place + length rest
          → ArePushed h old from list new next later
      pushed_on new next push same =
          let one = begins rest x later so_far.left is in
          let all = ap length one.parts ∙ length-append (item_text x) later in
          let size = length-item x in
          let place_is : next ≡ place + 4 + length x.0 + length x.1 =
          omega (arith, all, size, same) in
          let count = ap length push.offsets ∙ length-append (items_offsets items) (place ∷ []) in
          record {
            left = one.left;
            offsets = ap (λ (l : List ℕ). l ++ places_from next (leading_items later)) push.offsets
                ∙ append_assoc (items_offsets items) (place ∷ [])
                (places_from next (leading_items later))
                ∙ ap (λ (n : ℕ). items_offsets items
                ++ place ∷ places_from n (leading_items later)) place_is
                ∙ ap (λ (l : List (Text × Text)). items_offsets items ++ places_from place l)
                (sym on)
                ∙ so_far.offsets;
            leaves = ap (with_leaves h (leading_items later)) push.leaves
                ∙ leaves_on h x (leading_items later) (items_leaves items)
                ∙ ap (λ (l : List (Text × Text)). with_leaves h l (items_leaves items)) (sym on)
                ∙ so_far.leaves;
            capacity = push.capacity (length (leading_items later))
                (subst (λ (n : ℕ). HasCapacityOf n items) one_more so_far.capacity);
            few = omega (arith, so_far.few, one_more, count);
            fits = omega (arith, so_far.fits, same);
            disk = push.disk ∙ so_far.disk;
            stored = push.stored ∙ so_far.stored;
          }

    -- after the last
    pub pushed_all : leading_item rest ≡ None → HaveTaken h (leading_items list) from old items
    pushed_all none =
        let nothing = leading_none rest none in
        record {
          offsets = sym (append-nil (items_offsets items))
              ∙ ap (λ (l : List (Text × Text)). items_offsets items ++ places_from place l)
              (sym nothing)
              ∙ so_far.offsets;
          leaves = sym (leaves_none h (items_leaves items))
              ∙ ap (λ (l : List (Text × Text)). with_leaves h l (items_leaves items)) (sym nothing)
              ∙ so_far.leaves;
        }

  -- no items follow
  pub none_taken : (h : HashFunction) (place : ℕ) (items : Items H T hashes k)
      → HaveTaken h [] place items items
  none_taken h place items = record {
    offsets = sym (append-nil (items_offsets items));
    leaves = sym (leaves_none h (items_leaves items));
  }

  -- items that follow those that were there with more capacity
  pub taken_after : (h : HashFunction) (added : List (Text × Text)) (place : ℕ)
      (old mid new : Items H T hashes k) → items_offsets mid ≡ items_offsets old
      → items_leaves mid ≡ items_leaves old → HaveTaken h added place mid new
      → HaveTaken h added place old new
  taken_after h added place old mid new offsets leaves taken = record {
    offsets = taken.offsets ∙ ap (λ (l : List ℕ). l ++ places_from place added) offsets;
    leaves = taken.leaves ∙ ap (with_leaves h added) leaves;
  }
