-- What storing tiles and appending their size leaves.
use Rattle.std.proofs.Common.{◌≡◌, ℕ, ◌≤◌, List, [], ◌∷◌, ◌++◌, arith, false}
use Rattle.std.proofs.Common.{IfSome, subst, sym, Result, Ok, Err, OnOk, OnErr}
use Rattle.byte_formats.specs.Types.{Text}
use Rattle.byte_formats.proofs.Values.{each_some}
use Rattle.disk_core.specs.Times.{LeavesOnly}
use Rattle.disk_core.specs.declared.disk.Disk.{Ghosts}
use Rattle.journal_core.specs.Format.{Represents}
use Rattle.journal_core.proofs.Modelled.{if_some}
use Rattle.state_journal.proofs.Kept.{of_sound}
use Rattle.mtc_io.specs.declared.fault.Failed.{Failed as DiskFailed}
use Rattle.tile_store.specs.Calls.{TilesAreStored}
use Rattle.tile_store.specs.Contents.{HoldsTiles}
use Rattle.tile_store.specs.Layout.{tiles_end}
use Rattle.tile_store.specs.Store.{tiles_stored}
use Rattle.tile_store.specs.Writing.{IsCrashStateAfter}
use Rattle.tile_store.specs.declared.store.Tiles.{Tiles}
use Rattle.tree_core.specs.declared.hashing.TreeHash.{Ghosts as Hashes}
use Rattle.issuance_log.proofs.Tiling.{no_record, still_held, stored_held}
use Rattle.tiled_items.specs.Held.{held_leaves, held_places, held_tiles}
use Rattle.tiled_items.specs.Staying.{tiled_holds}
use Rattle.tiled_items.specs.Views.{HasTiledNumbers}
use Rattle.tiled_items.specs.Words.{tiled_broken, tiled_disk, tiled_end, tiled_leaves}
use Rattle.tiled_items.specs.Words.{tiled_records, tiled_tiles_disk, tiled_view}
use Rattle.tiled_items.specs.declared.rules.ItemRules.{Ghosts as Rules}
use Rattle.tiled_items.specs.declared.tiled.TiledItems.{TiledItems}
use Rattle.tiled_items.proofs.Leaves.{leaves_are}

-- ---- of a journal of items

module _ {R H D T : Type 0} {rules : Rules R} {hashes : Hashes H} {g : Ghosts D} {k : Ghosts T}
    (it : TiledItems R H D T rules hashes g k) where
  -- no tiles were written
  pub keeps_still : ((c : Text) → k.left_since (tiled_tiles_disk it)
      (k.clock_at (tiled_tiles_disk it)) c → k.may_leave (tiled_tiles_disk it) c)
      → (size : ℕ) → IfSome (tiled_leaves it) (λ leaves.
      ((c : Text) → k.may_leave (tiled_tiles_disk it) c → HoldsTiles hashes.hash leaves size c)
      → LeavesOnly k (tiled_tiles_disk it) (tiled_tiles_disk it)
      (HoldsTiles hashes.hash leaves size))
  keeps_still only_now size = each_some _ (tiled_leaves it) (λ leaves held.
      still_held k (tiled_tiles_disk it) (tiled_tiles_disk it) hashes.hash leaves size
      held only_now)

  pub after_none : (only_now : (c : Text) → g.left_since (tiled_disk it)
      (g.clock_at (tiled_disk it)) c → g.may_leave (tiled_disk it) c) → (body : Text)
      (size : ℕ)
      (disk : T) → tiled_broken it ≡ false → IfSome (tiled_leaves it) (λ leaves.
      IfSome (tiled_records it) (λ list. (c : Text)
      → g.left_since (tiled_disk it) (g.clock_at (tiled_disk it)) c
      → Represents c (list ++ body ∷ []) → (d : Text) → k.may_leave disk d
      → HoldsTiles hashes.hash leaves size d))
  after_none only_now body size disk sound = each_some _ (tiled_leaves it) (λ leaves.
      of_sound it.journal (λ list. (c : Text)
      → g.left_since (tiled_disk it) (g.clock_at (tiled_disk it)) c
      → Represents c (list ++ body ∷ []) → (d : Text) → k.may_leave disk d
      → HoldsTiles hashes.hash leaves size d) sound
      (no_record g (tiled_disk it) (tiled_end it) body (it.journal.is_durable sound)
      only_now
      (λ c. (d : Text) → k.may_leave disk d → HoldsTiles hashes.hash leaves size d)))

  -- they were written after those of the last size
  pub keeps_stored : HasTiledNumbers (rules.size (tiled_view it)) (rules.tiled (tiled_view it))
      → (disk later : T) → later ≡ disk
      → LeavesOnly k (tiled_tiles_disk it) disk (IsCrashStateAfter k (tiled_tiles_disk it)
      (tiles_end (tiles_stored (held_tiles it.machine.held))))
      → IfSome (tiled_leaves it) (λ leaves.
      ((c : Text) → k.may_leave (tiled_tiles_disk it) c
      → HoldsTiles hashes.hash leaves (rules.tiled (tiled_view it)) c)
      → LeavesOnly k (tiled_tiles_disk it) later
      (HoldsTiles hashes.hash leaves (rules.tiled (tiled_view it))))
  keeps_stored sound disk later same any_time = each_some _ (tiled_leaves it) (λ leaves held.
      let small = sound.few in
      let tiled = sound.within in
      subst (λ (d : T). LeavesOnly k (tiled_tiles_disk it) d
      (HoldsTiles hashes.hash leaves (rules.tiled (tiled_view it)))) (sym same)
      (stored_held k (tiled_tiles_disk it) disk hashes.hash leaves (rules.tiled (tiled_view it))
      held
      (tiles_stored (held_tiles it.machine.held)) (omega arith) it.stored any_time))

  -- and all of them are durable
  pub after_stored : (Left : Text → Type 0) (Stands : List Text → Text → Type 0)
      (stored size : ℕ) (disk later : T) → later ≡ disk → stored ≡ size
      → IfSome (held_leaves it.machine.held) (λ leaves. (d : Text) → k.may_leave disk d
      → HoldsTiles hashes.hash leaves stored d)
      → IfSome (tiled_leaves it) (λ leaves. IfSome (tiled_records it) (λ list. (c : Text)
      → Left c
      → Stands list c → (d : Text) → k.may_leave later d
      → HoldsTiles hashes.hash leaves size d))
  after_stored Left Stands stored size disk later same is holds =
      leaves_are rules.first rules.added hashes.hash (rules.size (tiled_view it))
      (held_places it.machine.held)
      (k.contents (tiled_tiles_disk it)) _ (tiled_records it)
      (λ leaves. IfSome (tiled_records it) (λ list. (c : Text) → Left c
      → Stands list c → (d : Text) → k.may_leave later d → HoldsTiles hashes.hash leaves size d))
      (tiled_holds it)
      (if_some (λ leaves. (d : Text) → k.may_leave disk d → HoldsTiles hashes.hash leaves size d)
      _ (held_leaves it.machine.held) (λ leaves each. each_some _ (tiled_records it)
      (λ list c left stands. subst (λ (at : T). (d : Text) → k.may_leave at d
      → HoldsTiles hashes.hash leaves size d) (sym same) each))
      (subst (λ (n : ℕ). IfSome (held_leaves it.machine.held) (λ leaves. (d : Text)
      → k.may_leave disk d → HoldsTiles hashes.hash leaves n d)) is holds))

-- the tiles of a size that were stored stay so where more are
pub stored_still : {H T : Type 0} {hashes : Hashes H} {k : Ghosts T} (size tiled : ℕ)
    (old new : Tiles H T hashes k) (result : Result (Unit {0}) DiskFailed)
    → tiled ≤ tiles_stored old → OnOk result (TilesAreStored size old new)
    → OnErr result (tiles_stored new ≡ tiles_stored old) → tiled ≤ tiles_stored new
stored_still size tiled old new (Ok done) within stored same = omega (arith, within, stored.stored)
stored_still size tiled old new (Err failed) within stored same = omega (arith, within, same)
