-- What is held of the items of a journal: the places of its blocks, and the nodes of the tree over
-- the entries.
use Rattle.std.specs.Prelude.{◌≡◌, ℕ, ◌+◌, ◌≤◌, List, ◌++◌, length, map, Option, option_map, IfSome}
use Rattle.std.specs.Prelude.{vec_capacity, vec_len}
use Rattle.std.proofs.Props.{props}
use Rattle.byte_formats.specs.Types.{Hash, HashFunction, Text}
use Rattle.disk_core.specs.declared.disk.Disk.{Ghosts}
use Rattle.tile_store.specs.Store.{tiles_count, tiles_leaves, tiles_spare}
use Rattle.tile_store.specs.declared.store.Tiles.{Tiles}
use Rattle.tree_core.specs.Tree.{leaf_hash}
use Rattle.tree_core.specs.declared.hashing.TreeHash.{Ghosts as Hashes}
use Rattle.tiled_items.specs.Blocks.{all_items, begun_at, block_places, blocks_begun}
use Rattle.tiled_items.specs.declared.held.HeldItems.{HeldItems}
use Rattle.tiled_items.specs.declared.held.ItemPlace.{ItemPlace}

-- the hashes of the entries of these items
abbrev pub leaves_of_items : HashFunction → List (Text × Text) → List Hash
leaves_of_items h items = map (leaf_hash h) (map (λ item. item.0) items)

-- There is a record. These records have so many items, whose blocks begin at these places, and the
-- nodes are those over the entries.
pub record ItemsAreHeld (begin : List (Text × Text)) (added : Text → List (Text × Text))
    (h : HashFunction) (size : ℕ) (places : List ItemPlace) (leaves : Option (List Hash))
    (list : List Text) : Type 0 where
  pub some : 1 ≤ length list
  pub all : size ≡ length (all_items begin added list)
  pub places_are : places ≡ block_places begin added list
  pub hashed : IfSome leaves (λ hashes. hashes ≡ leaves_of_items h (all_items begin added list))

-- it has one proof at most
pub ItemsAreHeld-prop : (begin : List (Text × Text)) (added : Text → List (Text × Text))
    (h : HashFunction) (size : ℕ) (places : List ItemPlace) (leaves : Option (List Hash))
    (list : List Text) → IsProp (ItemsAreHeld begin added h size places leaves list)
ItemsAreHeld-prop begin added h size places leaves list = hlevel props

module _ {H T : Type 0} {hashes : Hashes H} {k : Ghosts T} where
  -- The tiles of its nodes.
  abbrev pub held_tiles : HeldItems H T hashes k → Tiles H T hashes k
  held_tiles held = held.nodes

  -- the places of the blocks, how many items there are, and the hashes of their entries, if the
  -- model knows the bytes of the disk of the tiles
  abbrev pub held_places : HeldItems H T hashes k → List ItemPlace
  held_places held = held.places.items

  abbrev pub held_count : HeldItems H T hashes k → ℕ
  held_count held = tiles_count held.nodes

  abbrev pub held_leaves : HeldItems H T hashes k → Option (List Hash)
  held_leaves held = tiles_leaves held.nodes

  -- These items of a record, whose commit byte stands at an offset, follow the others.
  pub record HasPushedItems (h : HashFunction) (items : List (Text × Text)) (place : ℕ)
      (old new : HeldItems H T hashes k) : Type 0 where
    pub places : held_places new
        ≡ held_places old ++ begun_at place (held_count old) (length items)
    pub count : held_count new ≡ held_count old + length items
    pub leaves : held_leaves new
        ≡ option_map (λ list. list ++ leaves_of_items h items) (held_leaves old)

  -- so many items more, after others, need no memory; those that begin no block need no place
  pub record HasItemCapacity (first count : ℕ) (held : HeldItems H T hashes k) : Type 0 where
    pub places : 1 ≤ blocks_begun first count
        → vec_len held.places + blocks_begun first count ≤ vec_capacity held.places
    pub leaves : count ≤ tiles_spare held.nodes
