-- The durable records of a mirror's journal make it, and where the contents of both disks are known
-- it has as many leaf hashes as items.
use Rattle.std.proofs.Common.{◌≡◌, ℕ, List, length, Option, Some, None, option_map, IfSome}
use Rattle.std.proofs.Common.{refl, sym, ◌∙◌}
use Rattle.std.specs.Prelude.{map, option_and_then}
use Rattle.std.proofs.lemmas.List.{length-map}
use Rattle.byte_formats.specs.Types.{Hash, HashFunction, Text}
use Rattle.disk_core.specs.declared.disk.Disk.{Ghosts}
use Rattle.journal_core.specs.Ends.{durable_of}
use Rattle.journal_core.specs.Words.{disk_of, end_of}
use Rattle.tree_core.specs.Tree.{leaf_hash}
use Rattle.tree_core.specs.declared.hashing.TreeHash.{Ghosts as Hashes}
use Rattle.mirror_core.specs.Durable.{IsDurableMirror}
use Rattle.mirror_core.specs.Folds.{MirrorView, entries_in_mirror, mirror_with}
use Rattle.mirror_core.specs.Kept.{IsMirrored, kept_leaves, kept_places}
use Rattle.mirror_core.specs.Words.{mirror_leaves, mirror_records, mirror_tiles_disk, mirror_view}
use Rattle.mirror_core.specs.declared.kept.BatchPlace.{BatchPlace}
use Rattle.mirror_core.specs.declared.mirror.Mirror.{Mirror}

counted_where : (h : HashFunction) (v : MirrorView) (places : List BatchPlace)
    (leaves : Option (List Hash)) (tiles : Option Text) (records : Option (List Text))
    → IfSome records (IsMirrored h v places leaves)
    → IfSome (option_map (λ s. map (leaf_hash h) (entries_in_mirror s))
    (option_map (mirror_with v) (option_and_then (λ bytes. records) tiles)))
    (λ list. v.size ≡ length list)
counted_where h v places leaves None records kept = tt
counted_where h v places leaves (Some bytes) None kept = tt
counted_where h v places leaves (Some bytes) (Some list) kept =
    let s = mirror_with v list in
    kept.all
    ∙ sym (length-map s.items (λ item. item.0))
    ∙ sym (length-map (entries_in_mirror s) (leaf_hash h))

-- what holds of the durable records, where the contents are known
pub mirrored_in_known : (h : HashFunction) (v : MirrorView) (places : List BatchPlace)
    (leaves : Option (List Hash)) (end : ℕ) (contents : Option Text)
    → ((b : Text) → contents ≡ Some b → IsDurableMirror h v places leaves end b)
    → IfSome (option_map (durable_of end) contents) (IsMirrored h v places leaves)
mirrored_in_known h v places leaves end None durable = tt
mirrored_in_known h v places leaves end (Some b) durable = (durable b refl).kept

module _ {H D T : Type 0} {hashes : Hashes H} {g : Ghosts D} {k : Ghosts T} where
  pub mirror_keeps : (mirror : Mirror H D T hashes g k) → IfSome (mirror_records mirror)
      (IsMirrored hashes.hash (mirror_view mirror) (kept_places mirror.machine.kept)
      (kept_leaves mirror.machine.kept))
  mirror_keeps mirror =
      mirrored_in_known hashes.hash (mirror_view mirror) (kept_places mirror.machine.kept)
      (kept_leaves mirror.machine.kept) (end_of mirror.journal)
      (g.contents (disk_of mirror.journal)) mirror.durable

  pub mirror_leaves_counted : (mirror : Mirror H D T hashes g k)
      → IfSome (mirror_leaves mirror) (λ list. (mirror_view mirror).size ≡ length list)
  mirror_leaves_counted mirror =
      counted_where hashes.hash (mirror_view mirror) (kept_places mirror.machine.kept)
      (kept_leaves mirror.machine.kept) (k.contents (mirror_tiles_disk mirror))
      (mirror_records mirror) (mirror_keeps mirror)
