-- Hashes of items that are pushed one by one, as the items begin the bytes that are left.
use Rattle.std.proofs.Common.{◌≡◌, ◌+◌, ◌^◌, ◌<◌, ◌≤◌, List, [], ◌∷◌, ◌++◌, length, Option, Some}
use Rattle.std.proofs.Common.{None, option_map, refl, ap, sym, ◌∙◌, arith, append_assoc}
use Rattle.std.proofs.Common.{append-nil}
use Rattle.byte_formats.specs.Offsets.{IsBytes}
use Rattle.byte_formats.specs.Types.{Hash, HashFunction, Text}
use Rattle.disk_core.specs.declared.disk.Disk.{Ghosts}
use Rattle.issuance_log.specs.Batches.{leading_item, leading_items}
use Rattle.tile_store.specs.Store.{tiles_disk, tiles_spare, tiles_stored}
use Rattle.tree_core.specs.Tree.{leaf_hash}
use Rattle.tree_core.specs.declared.hashing.TreeHash.{Ghosts as Hashes}
use Rattle.mirror_core.specs.Kept.{item_leaves, kept_count, kept_leaves, kept_places, kept_tiles}
use Rattle.mirror_core.specs.declared.kept.KeptItems.{KeptItems}
use Rattle.issuance_log.proofs.Leading.{begins, leading_none, leading_on}

-- the leaves of these items after others
abbrev pub with_leaves : HashFunction → List (Text × Text) → Option (List Hash)
    → Option (List Hash)
with_leaves h items o = option_map (λ list. list ++ item_leaves h items) o

leaves_on : (h : HashFunction) (x : Text × Text) (items : List (Text × Text))
    (o : Option (List Hash))
    → with_leaves h items (option_map (λ list. list ++ leaf_hash h x.0 ∷ []) o)
    ≡ with_leaves h (x ∷ items) o
leaves_on h x items None = refl
leaves_on h x items (Some list) =
    ap Some (append_assoc list (leaf_hash h x.0 ∷ []) (item_leaves h items))

pub leaves_none : (h : HashFunction) (o : Option (List Hash)) → with_leaves h [] o ≡ o
leaves_none h None = refl
leaves_none h (Some list) = ap Some (append-nil list)

module _ {H T : Type 0} {hashes : Hashes H} {k : Ghosts T} where
  -- Hashes of the items that begin the bytes that are left follow the others, as those of all of
  -- them followed the old ones.
  pub record ArePushed (h : HashFunction) (old : KeptItems H T hashes k) (list : Text)
      (kept : KeptItems H T hashes k) (rest : Text) : Type 0 where
    pub left : IsBytes rest
    pub places : kept_places kept ≡ kept_places old
    pub count : kept_count kept + length (leading_items rest)
        ≡ kept_count old + length (leading_items list)
    pub leaves : with_leaves h (leading_items rest) (kept_leaves kept)
        ≡ with_leaves h (leading_items list) (kept_leaves old)
    pub spare : length (leading_items rest) ≤ tiles_spare (kept_tiles kept)
    pub few : kept_count kept + length (leading_items rest) < 2 ^ 32
    pub disk : tiles_disk (kept_tiles kept) ≡ tiles_disk (kept_tiles old)
    pub stored : tiles_stored (kept_tiles kept) ≡ tiles_stored (kept_tiles old)

  -- What the push of a hash leaves.
  pub record IsPushed (leaf : Hash) (kept new : KeptItems H T hashes k) : Type 0 where
    pub places : kept_places new ≡ kept_places kept
    pub count : kept_count new ≡ kept_count kept + 1
    pub leaves : kept_leaves new ≡ option_map (λ list. list ++ leaf ∷ []) (kept_leaves kept)
    pub spare : tiles_spare (kept_tiles kept) ≤ tiles_spare (kept_tiles new) + 1
    pub disk : tiles_disk (kept_tiles new) ≡ tiles_disk (kept_tiles kept)
    pub stored : tiles_stored (kept_tiles new) ≡ tiles_stored (kept_tiles kept)

  -- before the first
  pub pushed_first : (h : HashFunction) (old : KeptItems H T hashes k) (list : Text)
      → IsBytes list → length (leading_items list) ≤ tiles_spare (kept_tiles old)
      → kept_count old + length (leading_items list) < 2 ^ 32 → ArePushed h old list old list
  pushed_first h old list bytes spare few = record {
    left = bytes;
    places = refl;
    count = refl;
    leaves = refl;
    spare = spare;
    few = few;
    disk = refl;
    stored = refl;
  }

  module _ (h : HashFunction) (old : KeptItems H T hashes k) (list : Text)
      (kept : KeptItems H T hashes k) (rest : Text) (so_far : ArePushed h old list kept rest) where
    module _ (x : Text × Text) (later : Text) (is : leading_item rest ≡ Some (x, later)) where
      on : leading_items rest ≡ x ∷ leading_items later
      on = leading_on rest x later so_far.left is

      one_more : length (leading_items rest) ≡ length (leading_items later) + 1
      one_more = ap length on ∙ omega arith

      -- there is capacity for it
      pub push_spare : 1 ≤ tiles_spare (kept_tiles kept)
      push_spare = omega (arith, so_far.spare, one_more)

      pub push_few : kept_count kept + 1 < 2 ^ 32
      push_few = omega (arith, so_far.few, one_more)

      -- after it
      pub pushed_on : (leaf : Hash) (new : KeptItems H T hashes k) → leaf ≡ leaf_hash h x.0
          → IsPushed leaf kept new → ArePushed h old list new later
      pushed_on leaf new leaf_is push = record {
        left = (begins rest x later so_far.left is).left;
        places = push.places ∙ so_far.places;
        count = omega (arith, so_far.count, push.count, one_more);
        leaves = ap (with_leaves h (leading_items later)) (push.leaves
            ∙ ap (λ (l : Hash). option_map (λ list. list ++ l ∷ []) (kept_leaves kept)) leaf_is)
            ∙ leaves_on h x (leading_items later) (kept_leaves kept)
            ∙ ap (λ (l : List (Text × Text)). with_leaves h l (kept_leaves kept)) (sym on)
            ∙ so_far.leaves;
        spare = omega (arith, so_far.spare, push.spare, one_more);
        few = omega (arith, so_far.few, push.count, one_more);
        disk = push.disk ∙ so_far.disk;
        stored = push.stored ∙ so_far.stored;
      }

    -- after the last
    pub all_counted : leading_item rest ≡ None
        → kept_count kept ≡ kept_count old + length (leading_items list)
    all_counted none =
        let nothing = ap length (leading_none rest none) in omega (arith, so_far.count, nothing)

    pub all_pushed : leading_item rest ≡ None
        → kept_leaves kept ≡ with_leaves h (leading_items list) (kept_leaves old)
    all_pushed none =
        sym (leaves_none h (kept_leaves kept))
        ∙ ap (λ (l : List (Text × Text)). with_leaves h l (kept_leaves kept))
        (sym (leading_none rest none)) ∙ so_far.leaves
