-- Hashes of items that are pushed one by one, as the items begin the bytes that are left.
use Rattle.std.proofs.Common.{◌≡◌, ◌+◌, ◌^◌, ◌<◌, ◌≤◌, List, [], ◌∷◌, ◌++◌, length, Option, Some}
use Rattle.std.proofs.Common.{None, option_map, refl, ap, sym, ◌∙◌, arith, append_assoc, append-nil}
use Rattle.byte_formats.specs.Offsets.{IsBytes}
use Rattle.byte_formats.specs.Types.{Hash, HashFunction, Text}
use Rattle.disk_core.specs.declared.disk.Disk.{Ghosts}
use Rattle.issuance_log.specs.Batches.{leading_item, leading_items}
use Rattle.tile_store.specs.Store.{tiles_disk, tiles_spare, tiles_stored}
use Rattle.tree_core.specs.Tree.{leaf_hash}
use Rattle.tree_core.specs.declared.hashing.TreeHash.{Ghosts as Hashes}
use Rattle.tiled_items.specs.Held.{held_count, held_leaves, held_places, held_tiles}
use Rattle.tiled_items.specs.Held.{leaves_of_items}
use Rattle.tiled_items.specs.declared.held.HeldItems.{HeldItems}
use Rattle.issuance_log.proofs.Leading.{begins, leading_none, leading_on}

-- the leaves of these items after others
abbrev pub with_leaves : HashFunction → List (Text × Text) → Option (List Hash)
    → Option (List Hash)
with_leaves h items o = option_map (λ list. list ++ leaves_of_items h items) o

leaves_on : (h : HashFunction) (x : Text × Text) (items : List (Text × Text))
    (o : Option (List Hash))
    → with_leaves h items (option_map (λ list. list ++ leaf_hash h x.0 ∷ []) o)
    ≡ with_leaves h (x ∷ items) o
leaves_on h x items None = refl
leaves_on h x items (Some list) =
    ap Some (append_assoc list (leaf_hash h x.0 ∷ []) (leaves_of_items h items))

pub leaves_none : (h : HashFunction) (o : Option (List Hash)) → with_leaves h [] o ≡ o
leaves_none h None = refl
leaves_none h (Some list) = ap Some (append-nil list)

module _ {H T : Type 0} {hashes : Hashes H} {k : Ghosts T} where
  -- Hashes of the items that begin the bytes that are left follow the others, as those of all of
  -- them followed the old ones.
  pub record ArePushed (h : HashFunction) (old : HeldItems H T hashes k) (list : Text)
      (held : HeldItems H T hashes k) (rest : Text) : Type 0 where
    pub left : IsBytes rest
    pub places : held_places held ≡ held_places old
    pub count : held_count held + length (leading_items rest)
        ≡ held_count old + length (leading_items list)
    pub leaves : with_leaves h (leading_items rest) (held_leaves held)
        ≡ with_leaves h (leading_items list) (held_leaves old)
    pub spare : length (leading_items rest) ≤ tiles_spare (held_tiles held)
    pub few : held_count held + length (leading_items rest) < 2 ^ 32
    pub disk : tiles_disk (held_tiles held) ≡ tiles_disk (held_tiles old)
    pub stored : tiles_stored (held_tiles held) ≡ tiles_stored (held_tiles old)

  -- What the push of a hash leaves.
  pub record IsPushed (leaf : Hash) (held new : HeldItems H T hashes k) : Type 0 where
    pub places : held_places new ≡ held_places held
    pub count : held_count new ≡ held_count held + 1
    pub leaves : held_leaves new ≡ option_map (λ list. list ++ leaf ∷ []) (held_leaves held)
    pub spare : tiles_spare (held_tiles held) ≤ tiles_spare (held_tiles new) + 1
    pub disk : tiles_disk (held_tiles new) ≡ tiles_disk (held_tiles held)
    pub stored : tiles_stored (held_tiles new) ≡ tiles_stored (held_tiles held)

  -- before the first
  pub pushed_first : (h : HashFunction) (old : HeldItems H T hashes k) (list : Text)
      → IsBytes list → length (leading_items list) ≤ tiles_spare (held_tiles old)
      → held_count old + length (leading_items list) < 2 ^ 32 → ArePushed h old list old list
  pushed_first h old list bytes spare few = record {
    left = bytes;
    places = refl;
    count = refl;
    leaves = refl;
    spare = spare;
    few = few;
    disk = refl;
    stored = refl;
  }

  module _ (h : HashFunction) (old : HeldItems H T hashes k) (list : Text)
      (held : HeldItems H T hashes k) (rest : Text) (so_far : ArePushed h old list held rest) where
    module _ (x : Text × Text) (later : Text) (is : leading_item rest ≡ Some (x, later)) where
      on : leading_items rest ≡ x ∷ leading_items later
      on = leading_on rest x later so_far.left is

      one_more : length (leading_items rest) ≡ length (leading_items later) + 1
      one_more = ap length on ∙ omega arith

      -- there is capacity for it
      pub push_spare : 1 ≤ tiles_spare (held_tiles held)
      push_spare = omega (arith, so_far.spare, one_more)

      pub push_few : held_count held + 1 < 2 ^ 32
      push_few = omega (arith, so_far.few, one_more)

      -- after it
      pub pushed_on : (leaf : Hash) (new : HeldItems H T hashes k) → leaf ≡ leaf_hash h x.0
          → IsPushed leaf held new → ArePushed h old list new later
      pushed_on leaf new leaf_is push = record {
        left = (begins rest x later so_far.left is).left;
        places = push.places ∙ so_far.places;
        count = omega (arith, so_far.count, push.count, one_more);
        leaves = ap (with_leaves h (leading_items later)) (push.leaves
            ∙ ap (λ (l : Hash). option_map (λ list. list ++ l ∷ []) (held_leaves held)) leaf_is)
            ∙ leaves_on h x (leading_items later) (held_leaves held)
            ∙ ap (λ (l : List (Text × Text)). with_leaves h l (held_leaves held)) (sym on)
            ∙ so_far.leaves;
        spare = omega (arith, so_far.spare, push.spare, one_more);
        few = omega (arith, so_far.few, push.count, one_more);
        disk = push.disk ∙ so_far.disk;
        stored = push.stored ∙ so_far.stored;
      }

    -- after the last
    pub all_counted : leading_item rest ≡ None
        → held_count held ≡ held_count old + length (leading_items list)
    all_counted none =
        let nothing = ap length (leading_none rest none) in omega (arith, so_far.count, nothing)

    pub all_pushed : leading_item rest ≡ None
        → held_leaves held ≡ with_leaves h (leading_items list) (held_leaves old)
    all_pushed none =
        sym (leaves_none h (held_leaves held))
        ∙ ap (λ (l : List (Text × Text)). with_leaves h l (held_leaves held))
        (sym (leading_none rest none)) ∙ so_far.leaves
