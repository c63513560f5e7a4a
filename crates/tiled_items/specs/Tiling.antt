-- What a call that stores tiles leaves.
use Rattle.std.specs.Prelude.{◌≡◌, ℕ, false, [], ◌∷◌, ◌++◌}
use Rattle.std.specs.Prelude.{IfSome}
use Rattle.byte_formats.specs.Types.{Text}
use Rattle.disk_core.specs.Times.{LeavesOnly}
use Rattle.disk_core.specs.declared.disk.Disk.{Ghosts}
use Rattle.journal_core.specs.Format.{Represents}
use Rattle.tile_store.specs.Contents.{HoldsTiles}
use Rattle.tree_core.specs.declared.hashing.TreeHash.{Ghosts as Hashes}
use Rattle.tiled_items.specs.Words.{tiled_broken, tiled_disk, tiled_leaves}
use Rattle.tiled_items.specs.Words.{tiled_records, tiled_tiles_disk}
use Rattle.tiled_items.specs.declared.rules.ItemRules.{Ghosts as Rules}
use Rattle.tiled_items.specs.declared.tiled.TiledItems.{TiledItems}

module _ {R H D T : Type 0} {rules : Rules R} {hashes : Hashes H} {g : Ghosts D} {k : Ghosts T}
  where
    -- At any time a crash leaves the tiles of this size on their disk, if it would have left them
    -- before.
    abbrev pub KeepsItemTiles : ℕ → TiledItems R H D T rules hashes g k
        → TiledItems R H D T rules hashes g k → Type 0
    KeepsItemTiles size old new = IfSome (tiled_leaves old) (λ leaves.
        ((c : Text) → k.may_leave (tiled_tiles_disk old) c → HoldsTiles hashes.hash leaves size c)
        → LeavesOnly k (tiled_tiles_disk old) (tiled_tiles_disk new)
        (HoldsTiles hashes.hash leaves size))

    -- Unless an append had failed before: if a crash at some time of the call may leave a journal
    -- with this record, after the call it leaves the tiles of this size on their disk.
    abbrev pub ItemTilesStandAfter : Text → ℕ → TiledItems R H D T rules hashes g k
        → TiledItems R H D T rules hashes g k → Type 0
    ItemTilesStandAfter body size old new = tiled_broken old ≡ false
        → IfSome (tiled_leaves old) (λ leaves. IfSome (tiled_records old) (λ list. (c : Text)
        → g.left_since (tiled_disk new) (g.clock_at (tiled_disk old)) c
        → Represents c (list ++ body ∷ []) → (d : Text) → k.may_leave (tiled_tiles_disk new) d
        → HoldsTiles hashes.hash leaves size d))
