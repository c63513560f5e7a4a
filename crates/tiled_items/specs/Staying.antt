-- Nodes that are asked for, one after the other; and there are as many leaf hashes as items, where
-- the contents of both disks are known.
use Rattle.std.proofs.Common.{◌≡◌, ℕ, List, length, Option, Some, None, option_map, IfSome, refl}
use Rattle.std.proofs.Common.{sym, ◌∙◌}
use Rattle.std.specs.Prelude.{map, option_and_then}
use Rattle.std.proofs.lemmas.List.{length-map}
use Rattle.byte_formats.specs.Types.{Hash, HashFunction, Text}
use Rattle.disk_core.proofs.Times.{nothing_read, only_read_on}
use Rattle.disk_core.specs.declared.disk.Disk.{Ghosts}
use Rattle.journal_core.specs.Ends.{durable_of}
use Rattle.journal_core.specs.Words.{disk_of, end_of}
use Rattle.tree_core.specs.Tree.{leaf_hash}
use Rattle.tree_core.specs.declared.hashing.TreeHash.{Ghosts as Hashes}
use Rattle.tiled_items.specs.Blocks.{all_items}
use Rattle.tiled_items.specs.Durable.{IsDurableTiled}
use Rattle.tiled_items.specs.Held.{ItemsAreHeld, held_leaves, held_places, leaves_of_items}
use Rattle.tiled_items.specs.Words.{TiledAsksTiles, tiled_leaves, tiled_records, tiled_tiles_disk}
use Rattle.tiled_items.specs.Words.{tiled_view}
use Rattle.tiled_items.specs.declared.held.ItemPlace.{ItemPlace}
use Rattle.tiled_items.specs.declared.rules.ItemRules.{Ghosts as Rules}
use Rattle.tiled_items.specs.declared.tiled.TiledItems.{TiledItems}

counted_where : (begin : List (Text × Text)) (added : Text → List (Text × Text))
    (h : HashFunction) (size : ℕ) (places : List ItemPlace) (leaves : Option (List Hash))
    (tiles : Option Text) (records : Option (List Text))
    → IfSome records (ItemsAreHeld begin added h size places leaves)
    → IfSome (option_map (leaves_of_items h)
    (option_and_then (λ b. option_map (all_items begin added) records) tiles))
    (λ list. size ≡ length list)
counted_where begin added h size places leaves None records held = tt
counted_where begin added h size places leaves (Some bytes) None held = tt
counted_where begin added h size places leaves (Some bytes) (Some list) held =
    held.all
    ∙ sym (length-map (all_items begin added list) (λ item. item.0))
    ∙ sym (length-map (map (λ item. item.0) (all_items begin added list)) (leaf_hash h))

held_in : {R : Type 0} (rules : Rules R) (h : HashFunction) (v : rules.View)
    (places : List ItemPlace) (leaves : Option (List Hash)) (end : ℕ) (contents : Option Text)
    → ((b : Text) → contents ≡ Some b → IsDurableTiled rules h v places leaves end b)
    → IfSome (option_map (durable_of end) contents)
    (ItemsAreHeld rules.first rules.added h (rules.size v) places leaves)
held_in rules h v places leaves end None durable = tt
held_in rules h v places leaves end (Some b) durable = (durable b refl).held

module _ {R H D T : Type 0} {rules : Rules R} {hashes : Hashes H} {g : Ghosts D} {k : Ghosts T}
  where
    -- the durable records have its items
    pub tiled_holds : (it : TiledItems R H D T rules hashes g k) → IfSome (tiled_records it)
        (ItemsAreHeld rules.first rules.added hashes.hash (rules.size (tiled_view it))
        (held_places it.machine.held) (held_leaves it.machine.held))
    tiled_holds it =
        held_in rules hashes.hash (tiled_view it) (held_places it.machine.held)
        (held_leaves it.machine.held) (end_of it.journal) (g.contents (disk_of it.journal))
        it.durable

    pub tiled_leaves_counted : (it : TiledItems R H D T rules hashes g k)
        → IfSome (tiled_leaves it) (λ list. rules.size (tiled_view it) ≡ length list)
    tiled_leaves_counted it =
        counted_where rules.first rules.added hashes.hash (rules.size (tiled_view it))
        (held_places it.machine.held) (held_leaves it.machine.held)
        (k.contents (tiled_tiles_disk it)) (tiled_records it) (tiled_holds it)

    -- without a call
    pub tiled_asks_alone : (it : TiledItems R H D T rules hashes g k)
        → ((c : Text) → k.left_since (tiled_tiles_disk it) (k.clock_at (tiled_tiles_disk it)) c
        → k.may_leave (tiled_tiles_disk it) c) → TiledAsksTiles it it
    tiled_asks_alone it only_now = record {
      disk = refl;
      tiles = nothing_read k (tiled_tiles_disk it) only_now;
      view = refl;
      end = refl;
      broken = refl;
    }

    -- in two calls
    pub tiled_asks_both : (old mid new : TiledItems R H D T rules hashes g k)
        → TiledAsksTiles old mid → TiledAsksTiles mid new → TiledAsksTiles old new
    tiled_asks_both old mid new first second = record {
      disk = second.disk ∙ first.disk;
      tiles =
          only_read_on k (tiled_tiles_disk old) (tiled_tiles_disk mid) (tiled_tiles_disk new)
          first.tiles second.tiles;
      view = second.view ∙ first.view;
      end = second.end ∙ first.end;
      broken = second.broken ∙ first.broken;
    }
