-- What is retained of the items of a mirror: where each Batch stands in the journal, and the nodes
-- of the tree over the entries.
use Rattle.std.specs.Prelude.{◌≡◌, ℕ, ◌+◌, ◌≤◌, ◌<◌, ◌%◌, ◌^◌, List, ◌++◌, length, map, Option}
use Rattle.std.specs.Prelude.{option_map, IfSome, Ok, vec_capacity, vec_len}
use Rattle.std.proofs.Props.{props}
use Rattle.byte_formats.specs.Types.{Hash, HashFunction, Text}
use Rattle.disk_core.specs.declared.disk.Disk.{Ghosts}
use Rattle.tile_store.specs.Store.{tiles_count, tiles_leaves, tiles_spare}
use Rattle.tile_store.specs.declared.store.Tiles.{Tiles}
use Rattle.tree_core.specs.Tree.{leaf_hash}
use Rattle.tree_core.specs.declared.hashing.TreeHash.{Ghosts as Hashes}
use Rattle.mirror_core.specs.Folds.{MirrorView, mirror_of, mirror_with}
use Rattle.mirror_core.specs.Places.{place_with, places_of_batches}
use Rattle.mirror_core.specs.Records.{all_mirrored, mirrored_by, mirrored_in}
use Rattle.mirror_core.specs.declared.kept.BatchPlace.{BatchPlace}
use Rattle.mirror_core.specs.declared.kept.KeptItems.{KeptItems}

-- the hashes of the entries of these items
abbrev pub item_leaves : HashFunction → List (Text × Text) → List Hash
item_leaves h items = map (leaf_hash h) (map (λ item. item.0) items)

-- What holds of a mirror over any disk: it has fewer than 2^32 items, and its tiles are those of a
-- multiple of 256 up to its size.
pub record HasMirrorNumbers (v : MirrorView) : Type 0 where
  pub few : v.size < 2 ^ 32
  pub multiple : v.tiled % 256 ≡ 0
  pub tiled : v.tiled ≤ v.size

pub HasMirrorNumbers-prop : (v : MirrorView) → IsProp (HasMirrorNumbers v)
HasMirrorNumbers-prop v = hlevel props

-- These records make what the mirror shows, each of its Batches is at its place, and the nodes are
-- those over the entries.
pub record IsMirrored (h : HashFunction) (v : MirrorView) (places : List BatchPlace)
    (leaves : Option (List Hash)) (list : List Text) : Type 0 where
  pub made : mirror_of h list ≡ Ok (mirror_with v list)
  pub all : v.size ≡ length (all_mirrored list)
  pub places_are : places ≡ places_of_batches list
  pub hashed : IfSome leaves (λ hashes. hashes ≡ item_leaves h (all_mirrored list))

-- it has one proof at most
pub IsMirrored-prop : (h : HashFunction) (v : MirrorView) (places : List BatchPlace)
    (leaves : Option (List Hash)) (list : List Text) → IsProp (IsMirrored h v places leaves list)
IsMirrored-prop h v places leaves list = hlevel props

module _ {H T : Type 0} {hashes : Hashes H} {k : Ghosts T} where
  -- The tiles of its nodes.
  abbrev pub kept_tiles : KeptItems H T hashes k → Tiles H T hashes k
  kept_tiles kept = kept.nodes

  -- the places of its Batches, how many items there are, and the hashes of their entries, if the
  -- model knows the bytes of the disk of the tiles
  abbrev pub kept_places : KeptItems H T hashes k → List BatchPlace
  kept_places kept = kept.places.items

  abbrev pub kept_count : KeptItems H T hashes k → ℕ
  kept_count kept = tiles_count kept.nodes

  abbrev pub kept_leaves : KeptItems H T hashes k → Option (List Hash)
  kept_leaves kept = tiles_leaves kept.nodes

  -- The items of a record, whose commit byte stands at an offset, follow the others.
  pub record HasTakenItems (h : HashFunction) (body : Text) (place : ℕ)
      (old new : KeptItems H T hashes k) : Type 0 where
    pub places : kept_places new
        ≡ kept_places old ++ place_with place (kept_count old) (mirrored_in body)
    pub count : kept_count new ≡ kept_count old + length (mirrored_by body)
    pub leaves : kept_leaves new
        ≡ option_map (λ list. list ++ item_leaves h (mirrored_by body)) (kept_leaves old)

  -- so many items more, in one Batch, need no memory
  pub record HasBatchCapacity (count : ℕ) (kept : KeptItems H T hashes k) : Type 0 where
    pub places : vec_len kept.places + 1 ≤ vec_capacity kept.places
    pub leaves : count ≤ tiles_spare kept.nodes
