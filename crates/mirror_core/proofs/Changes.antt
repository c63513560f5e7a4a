-- The records of a Batch and of tiles: what they make, and which capacity they need.
use Rattle.std.proofs.Common.{◌≡◌, ℕ, ◌+◌, ◌%◌, ◌^◌, ◌<◌, ◌≤◌, ◌&&◌, List, length, Some}
use Rattle.std.proofs.Common.{None, ap, sym, subst, ◌∙◌, true, Bool, arith}
use Rattle.std.specs.List.{list_all}
use Rattle.std.specs.Prelude.{flat_map}
use Rattle.std.proofs.lemmas.Bool.{lt-ltb}
use Rattle.std.proofs.lemmas.Option.{same_Some}
use Rattle.byte_formats.specs.Types.{HashFunction, Text}
use Rattle.disk_core.specs.declared.disk.Disk.{Ghosts}
use Rattle.issuance_log.specs.Records.{CanBeBatch, item_text, tiles_record, tiles_tag}
use Rattle.issuance_log.proofs.Encoded.{length-size}
use Rattle.tree_core.specs.declared.hashing.TreeHash.{Ghosts as Hashes}
use Rattle.mirror_core.specs.Folds.{MirrorView, is_mirrorable, mirror_tiled_to}
use Rattle.mirror_core.specs.Folds.{more_mirrored, next_mirror, next_mirror_view, takes_mirrored}
use Rattle.mirror_core.specs.Folds.{with_mirror_tiles, with_mirrored}
use Rattle.mirror_core.specs.Kept.{HasBatchCapacity, HasMirrorNumbers}
use Rattle.mirror_core.specs.Records.{mirror_batch_record, mirrored_in}
use Rattle.mirror_core.specs.Words.{IsMirroredAs, MakesOfMirror}
use Rattle.mirror_core.specs.declared.kept.KeptItems.{KeptItems}
use Rattle.mirror_core.proofs.Encoded.{batch_again, length-batch, tiles_no_batch}
use Rattle.mirror_core.proofs.Views.{next_batched, next_tiled, view_batched, view_tiled}

-- the size fits eight bytes
pub size_fits : (v : MirrorView) → HasMirrorNumbers v → v.size < 2 ^ 32
size_fits v is = is.few

-- a record whose length may be appended, and which is taken
pub record IsGoodRecord (h : HashFunction) (v w : MirrorView) (body : Text) : Type 0 where
  pub some : 1 ≤ length body
  pub few : length body ≤ 131072
  pub takes : next_mirror_view h v body ≡ Some w

-- ---- a Batch

-- items of which each is one of a mirror, and that aren't too many
pub all_taken : (h : HashFunction) (v : MirrorView) (items : List (Text × Text))
    → v.size + length items < 2 ^ 32 → list_all (is_mirrorable h) items ≡ true
    → takes_mirrored h v items ≡ true
all_taken h v items few each =
    ap (λ (b : Bool). b && list_all (is_mirrorable h) items)
    (lt-ltb (v.size + length items) (2 ^ 32) few) ∙ each

module _ (h : HashFunction) (v : MirrorView) (items : List (Text × Text)) (can : CanBeBatch items)
    (taken : takes_mirrored h v items ≡ true) where
  pub batch_makes : MakesOfMirror h v (mirror_batch_record items) (with_mirrored items)
  batch_makes s is =
      next_batched h s items can
      (subst (λ (u : MirrorView). takes_mirrored h u items ≡ true) (sym is) taken)

  pub batch_taken_as : IsMirroredAs h v (mirror_batch_record items)
      (more_mirrored (length items)) (with_mirrored items)
  batch_taken_as = record { shows = view_batched h v items can taken; makes = batch_makes }

  pub batch_record_of : (text : Text) → text ≡ mirror_batch_record items
      → length (flat_map item_text items) ≤ 131069
      → IsGoodRecord h v (more_mirrored (length items) v) text
  batch_record_of text text_is few =
      let size = length-batch items in
      subst (λ (t : Text). IsGoodRecord h v (more_mirrored (length items) v) t) (sym text_is)
      (record {
        some = omega (arith, size);
        few = omega (arith, size, few);
        takes = batch_taken_as.shows;
      })

-- ---- tiles

module _ (h : HashFunction) (v : MirrorView) (size : ℕ) (fits : size < 2 ^ 64)
    (multiple : size % 256 ≡ 0) (above : v.tiled < size) (within : size ≤ v.size) where
  pub tiles_make : MakesOfMirror h v (tiles_record size) (with_mirror_tiles size)
  tiles_make s is =
      subst (λ (u : MirrorView). u.tiled < size → size ≤ u.size
      → next_mirror h s (tiles_record size) ≡ Some (with_mirror_tiles size s)) is
      (next_tiled h s size fits multiple) above within

  pub tiles_taken_as
      : IsMirroredAs h v (tiles_record size) (mirror_tiled_to size) (with_mirror_tiles size)
  tiles_taken_as =
      record { shows = view_tiled h v size fits multiple above within; makes = tiles_make }

  pub tiles_record_of : (text : Text) → text ≡ tiles_record size
      → IsGoodRecord h v (mirror_tiled_to size v) text
  tiles_record_of text text_is =
      let bytes = length-size tiles_tag size in
      subst (λ (t : Text). IsGoodRecord h v (mirror_tiled_to size v) t) (sym text_is) (record {
        some = omega arith;
        few = omega arith;
        takes = tiles_taken_as.shows;
      })

-- ---- which capacity they need

module _ {H T : Type 0} {hashes : Hashes H} {k : Ghosts T} (kept : KeptItems H T hashes k)
    (text : Text) where
  pub batch_ready : (list : List (Text × Text)) → text ≡ mirror_batch_record list
      → CanBeBatch list → HasBatchCapacity (length list) kept
      → (items : List (Text × Text)) → mirrored_in text ≡ Some items
      → HasBatchCapacity (length items) kept
  batch_ready list is can capacity items there =
      subst (λ (l : List (Text × Text)). HasBatchCapacity (length l) kept)
      (same_Some list items (sym (ap mirrored_in is ∙ batch_again list can) ∙ there)) capacity

  pub tiles_ready : (size : ℕ) → text ≡ tiles_record size
      → (items : List (Text × Text)) → mirrored_in text ≡ Some items
      → HasBatchCapacity (length items) kept
  tiles_ready size is items there =
      let wrong : None ≡ Some items = sym (ap mirrored_in is ∙ tiles_no_batch size) ∙ there in
      absurd cc

-- the tiles of the size that the record makes are stored
pub stored_by : (h : HashFunction) (v w : MirrorView) (body : Text) (stored : ℕ)
    → next_mirror_view h v body ≡ Some w → w.tiled ≤ stored
    → (u : MirrorView) → next_mirror_view h v body ≡ Some u → u.tiled ≤ stored
stored_by h v w body stored is within u next =
    subst (λ (x : MirrorView). x.tiled ≤ stored) (same_Some w u (sym is ∙ next)) within
