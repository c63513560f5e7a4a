-- What is retained of the items of a log: where each stands in the journal, and the nodes of the
-- tree over the entries.
use Rattle.std.specs.Prelude.{◌≡◌, ℕ, ◌+◌, ◌<◌, ◌≤◌, List, ◌++◌, length, map, slice_index_or}
use Rattle.std.specs.Prelude.{Option, option_map, IfSome, Ok, vec_len}
use Rattle.std.specs.Prelude.{vec_capacity}
use Rattle.std.proofs.Props.{props}
use Rattle.byte_formats.specs.Types.{Hash, HashFunction, Text}
use Rattle.disk_core.specs.declared.disk.Disk.{Ghosts}
use Rattle.tile_store.specs.Store.{tiles_leaves, tiles_spare}
use Rattle.tile_store.specs.declared.store.Tiles.{Tiles}
use Rattle.tree_core.specs.Tree.{leaf_hash}
use Rattle.tree_core.specs.declared.hashing.TreeHash.{Ghosts as Hashes}
use Rattle.issuance_log.specs.Folds.{LogView, log_of}
use Rattle.issuance_log.specs.ItemOffsets.{offsets_of, places_from}
use Rattle.issuance_log.specs.Shown.{recorded_items, shown_with}
use Rattle.issuance_log.specs.Sound.{IsSound, IsSound-prop}
use Rattle.issuance_log.specs.declared.items.Items.{Items}

-- After each of the offsets two lengths of two bytes fit below an end.
abbrev pub AreBelow : List ℕ → ℕ → Type 0
AreBelow offsets end = (i : ℕ) → i < length offsets → slice_index_or offsets i 0 + 4 ≤ end

-- The nodes are those over the entries.
abbrev pub AreHashed : HashFunction → LogView → Option (List Hash) → List Text → Type 0
AreHashed h v leaves list =
    IfSome leaves (λ hashes. hashes ≡ map (leaf_hash h) (shown_with v list).entries)

-- These records make what the log shows, and each of its items is at its offset.
pub record AreKept (h : HashFunction) (v : LogView) (offsets : List ℕ) (leaves : Option (List Hash))
    (list : List Text) : Type 0 where
  pub made : log_of h list ≡ Ok (shown_with v list)
  pub all : v.size ≡ length (recorded_items list)
  pub offsets_are : offsets ≡ offsets_of list
  pub sound : IsSound h (shown_with v list)
  pub hashed : AreHashed h v leaves list

-- it has one proof at most
pub AreKept-prop : (h : HashFunction) (v : LogView) (offsets : List ℕ) (leaves : Option (List Hash))
    (list : List Text) → IsProp (AreKept h v offsets leaves list)
AreKept-prop h v offsets leaves list = hlevel (props, IsSound-prop h (shown_with v list))

module _ {H T : Type 0} {hashes : Hashes H} {k : Ghosts T} where
  -- The tiles of its nodes.
  abbrev pub items_tiles : Items H T hashes k → Tiles H T hashes k
  items_tiles items = items.nodes

  -- the hashes of the entries, if the model knows the bytes of the disk of the tiles
  abbrev pub items_leaves : Items H T hashes k → Option (List Hash)
  items_leaves items = tiles_leaves items.nodes

  abbrev pub items_offsets : Items H T hashes k → List ℕ
  items_offsets items = items.offsets.items

  -- These items, which follow each other from an offset on, follow the others.
  pub record HaveTaken (h : HashFunction) (added : List (Text × Text)) (place : ℕ)
      (old new : Items H T hashes k) : Type 0 where
    pub offsets : items_offsets new ≡ items_offsets old ++ places_from place added
    pub leaves : items_leaves new
        ≡ option_map (λ list. list ++ map (λ x. leaf_hash h x.0) added) (items_leaves old)

  -- so many items more need no memory
  pub record HasCapacityOf (count : ℕ) (items : Items H T hashes k) : Type 0 where
    pub places : vec_len items.offsets + count ≤ vec_capacity items.offsets
    pub leaves : count ≤ tiles_spare items.nodes
