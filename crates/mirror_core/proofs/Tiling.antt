-- What storing tiles and appending their size leaves.
use Rattle.std.proofs.Common.{◌≡◌, ℕ, ◌≤◌, List, [], ◌∷◌, ◌++◌, arith, false}
use Rattle.std.proofs.Common.{Option, Some, None, IfSome, option_map, subst, sym}
use Rattle.std.proofs.Common.{Result, Ok, Err, OnOk, OnErr}
use Rattle.byte_formats.specs.Types.{Text, HashFunction}
use Rattle.byte_formats.proofs.Values.{each_some}
use Rattle.disk_core.specs.Times.{LeavesOnly}
use Rattle.disk_core.specs.declared.disk.Disk.{Ghosts}
use Rattle.journal_core.specs.Format.{Represents}
use Rattle.journal_core.proofs.Modelled.{if_some}
use Rattle.state_journal.proofs.Kept.{of_sound}
use Rattle.mtc_io.specs.declared.fault.Failed.{Failed as DiskFailed}
use Rattle.tile_store.specs.Calls.{TilesAreStored}
use Rattle.tile_store.specs.Contents.{HoldsTiles}
use Rattle.tile_store.specs.Layout.{tiles_end}
use Rattle.tile_store.specs.Store.{tiles_stored}
use Rattle.tile_store.specs.Writing.{IsCrashStateAfter}
use Rattle.tile_store.specs.declared.store.Tiles.{Tiles}
use Rattle.tree_core.specs.declared.hashing.TreeHash.{Ghosts as Hashes}
use Rattle.issuance_log.proofs.Tiling.{no_record, still_held, stored_held}
use Rattle.mirror_core.proofs.Changes.{size_fits}
use Rattle.mirror_core.proofs.Telling.{leaves_by}
use Rattle.mirror_core.specs.Counted.{mirror_keeps}
use Rattle.mirror_core.specs.Folds.{MirrorView}
use Rattle.mirror_core.specs.Kept.{HasMirrorNumbers, IsMirrored, kept_leaves}
use Rattle.mirror_core.specs.Kept.{kept_places}
use Rattle.mirror_core.specs.Words.{mirror_broken, mirror_disk, mirror_end}
use Rattle.mirror_core.specs.Words.{mirror_leaves, mirror_records, mirror_tiles}
use Rattle.mirror_core.specs.Words.{mirror_tiles_disk, mirror_view}
use Rattle.mirror_core.specs.declared.kept.BatchPlace.{BatchPlace}
use Rattle.mirror_core.specs.declared.mirror.Mirror.{Mirror}

-- the hashes of the entries are the nodes that are retained
pub leaves_are : (h : HashFunction) (v : MirrorView) (places : List BatchPlace)
    (contents : Option Text)
    (nodes : Text → List (List ℕ)) (records : Option (List Text)) (P : List (List ℕ) → Type 0)
    → IfSome records (IsMirrored h v places (option_map nodes contents))
    → IfSome (option_map nodes contents) P
    → IfSome (leaves_by h v contents records) P
leaves_are h v places None nodes records P kept is = tt
leaves_are h v places (Some t) nodes None P kept is = tt
leaves_are h v places (Some t) nodes (Some list) P kept is = subst P kept.hashed is

-- ---- of a mirror

module _ {H D T : Type 0} {hashes : Hashes H} {g : Ghosts D} {k : Ghosts T}
    (mirror : Mirror H D T hashes g k) where
  -- no tiles were written
  pub keeps_still : ((c : Text) → k.left_since (mirror_tiles_disk mirror)
      (k.clock_at (mirror_tiles_disk mirror)) c → k.may_leave (mirror_tiles_disk mirror) c)
      → (size : ℕ) → IfSome (mirror_leaves mirror) (λ leaves.
      ((c : Text) → k.may_leave (mirror_tiles_disk mirror) c → HoldsTiles hashes.hash leaves size c)
      → LeavesOnly k (mirror_tiles_disk mirror) (mirror_tiles_disk mirror)
      (HoldsTiles hashes.hash leaves size))
  keeps_still only_now size = each_some _ (mirror_leaves mirror) (λ leaves held.
      still_held k (mirror_tiles_disk mirror) (mirror_tiles_disk mirror) hashes.hash leaves size
      held only_now)

  pub after_none : (only_now : (c : Text) → g.left_since (mirror_disk mirror)
      (g.clock_at (mirror_disk mirror)) c → g.may_leave (mirror_disk mirror) c) → (body : Text)
      (size : ℕ)
      (disk : T) → mirror_broken mirror ≡ false → IfSome (mirror_leaves mirror) (λ leaves.
      IfSome (mirror_records mirror) (λ list. (c : Text)
      → g.left_since (mirror_disk mirror) (g.clock_at (mirror_disk mirror)) c
      → Represents c (list ++ body ∷ []) → (d : Text) → k.may_leave disk d
      → HoldsTiles hashes.hash leaves size d))
  after_none only_now body size disk sound = each_some _ (mirror_leaves mirror) (λ leaves.
      of_sound mirror.journal (λ list. (c : Text)
      → g.left_since (mirror_disk mirror) (g.clock_at (mirror_disk mirror)) c
      → Represents c (list ++ body ∷ []) → (d : Text) → k.may_leave disk d
      → HoldsTiles hashes.hash leaves size d) sound
      (no_record g (mirror_disk mirror) (mirror_end mirror) body (mirror.journal.is_durable sound)
      only_now
      (λ c. (d : Text) → k.may_leave disk d → HoldsTiles hashes.hash leaves size d)))

  -- they were written after those of the last size
  pub keeps_stored : HasMirrorNumbers (mirror_view mirror) → (disk later : T) → later ≡ disk
      → LeavesOnly k (mirror_tiles_disk mirror) disk (IsCrashStateAfter k (mirror_tiles_disk mirror)
      (tiles_end (tiles_stored (mirror_tiles mirror))))
      → IfSome (mirror_leaves mirror) (λ leaves.
      ((c : Text) → k.may_leave (mirror_tiles_disk mirror) c
      → HoldsTiles hashes.hash leaves (mirror_view mirror).tiled c)
      → LeavesOnly k (mirror_tiles_disk mirror) later
      (HoldsTiles hashes.hash leaves (mirror_view mirror).tiled))
  keeps_stored sound disk later same any_time = each_some _ (mirror_leaves mirror) (λ leaves held.
      let small = size_fits (mirror_view mirror) sound in
      let tiled = sound.tiled in
      subst (λ (d : T). LeavesOnly k (mirror_tiles_disk mirror) d
      (HoldsTiles hashes.hash leaves (mirror_view mirror).tiled)) (sym same)
      (stored_held k (mirror_tiles_disk mirror) disk hashes.hash leaves (mirror_view mirror).tiled
      held
      (tiles_stored (mirror_tiles mirror)) (omega arith) mirror.stored any_time))

  -- and all of them are durable
  pub after_stored : (Left : Text → Type 0) (Stands : List Text → Text → Type 0)
      (stored size : ℕ) (disk later : T) → later ≡ disk → stored ≡ size
      → IfSome (kept_leaves mirror.machine.kept) (λ leaves. (d : Text) → k.may_leave disk d
      → HoldsTiles hashes.hash leaves stored d)
      → IfSome (mirror_leaves mirror) (λ leaves. IfSome (mirror_records mirror) (λ list. (c : Text)
      → Left c
      → Stands list c → (d : Text) → k.may_leave later d
      → HoldsTiles hashes.hash leaves size d))
  after_stored Left Stands stored size disk later same is holds =
      leaves_are hashes.hash (mirror_view mirror) (kept_places mirror.machine.kept)
      (k.contents (mirror_tiles_disk mirror)) _ (mirror_records mirror)
      (λ leaves. IfSome (mirror_records mirror) (λ list. (c : Text) → Left c
      → Stands list c → (d : Text) → k.may_leave later d → HoldsTiles hashes.hash leaves size d))
      (mirror_keeps mirror)
      (if_some (λ leaves. (d : Text) → k.may_leave disk d → HoldsTiles hashes.hash leaves size d)
      _ (kept_leaves mirror.machine.kept) (λ leaves each. each_some _ (mirror_records mirror)
      (λ list c left stands. subst (λ (at : T). (d : Text) → k.may_leave at d
      → HoldsTiles hashes.hash leaves size d) (sym same) each))
      (subst (λ (n : ℕ). IfSome (kept_leaves mirror.machine.kept) (λ leaves. (d : Text)
      → k.may_leave disk d → HoldsTiles hashes.hash leaves n d)) is holds))

-- the tiles of a size that were stored stay so where more are
pub stored_still : {H T : Type 0} {hashes : Hashes H} {k : Ghosts T} (size tiled : ℕ)
    (old new : Tiles H T hashes k) (result : Result (Unit {0}) DiskFailed)
    → tiled ≤ tiles_stored old → OnOk result (TilesAreStored size old new)
    → OnErr result (tiles_stored new ≡ tiles_stored old) → tiled ≤ tiles_stored new
stored_still size tiled old new (Ok done) within stored same = omega (arith, within, stored.stored)
stored_still size tiled old new (Err failed) within stored same = omega (arith, within, same)
