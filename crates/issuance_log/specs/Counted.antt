-- The durable records of a log's journal make it, and where the contents of both disks are known it
-- has as many leaf hashes as entries.
use Rattle.std.proofs.Common.{◌≡◌, ℕ, ◌≤◌, List, length, Option, Some, None, option_map, IfSome}
use Rattle.std.proofs.Common.{refl, sym, subst, ◌∙◌, le_refl}
use Rattle.std.specs.Prelude.{map, option_and_then}
use Rattle.std.proofs.lemmas.List.{length-map, length-take-le}
use Rattle.byte_formats.specs.Types.{Text}
use Rattle.disk_core.specs.declared.disk.Disk.{Ghosts}
use Rattle.journal_core.specs.Ends.{durable_of}
use Rattle.journal_core.specs.Words.{disk_of, end_of}
use Rattle.issuance_log.specs.Durable.{IsDurableLog}
use Rattle.issuance_log.specs.Folds.{LogView}
use Rattle.issuance_log.specs.Items.{AreKept, items_leaves, items_offsets}
use Rattle.issuance_log.specs.Shown.{recorded_items, shown_with}
use Rattle.issuance_log.specs.Words.{log_leaves, log_records, log_tiles_disk, view_of}
use Rattle.issuance_log.specs.declared.log.Log.{Log}
use Rattle.tree_core.specs.Tree.{leaf_hash}
use Rattle.tree_core.specs.declared.hashing.TreeHash.{Ghosts as Hashes}

-- the items of the records, as many as are shown
shown_size : (v : LogView) (list : List (List ℕ)) → v.size ≡ length (recorded_items list)
    → v.size ≡ length (shown_with v list).entries
shown_size v list all =
    sym (length-take-le v.size (map (λ item. item.0) (recorded_items list))
    (subst (λ (n : ℕ). v.size ≤ n) (all ∙ sym (length-map (recorded_items list) (λ item. item.0)))
    (le_refl v.size)))

counted_when : (h : List ℕ → List ℕ) (v : LogView) (offsets : List ℕ)
    (leaves : Option (List (List ℕ))) (tiles : Option (List ℕ)) (records : Option (List (List ℕ)))
    → IfSome records (AreKept h v offsets leaves)
    → IfSome (option_map (λ s. map (leaf_hash h) s.entries)
    (option_map (shown_with v) (option_and_then (λ bytes. records) tiles)))
    (λ list. v.size ≡ length list)
counted_when h v offsets leaves None records kept = tt
counted_when h v offsets leaves (Some bytes) None kept = tt
counted_when h v offsets leaves (Some bytes) (Some list) kept =
    shown_size v list kept.all
    ∙ sym (length-map (shown_with v list).entries (leaf_hash h))

-- what holds of the durable records, where the contents are known
pub kept_in : (h : List ℕ → List ℕ) (v : LogView) (offsets : List ℕ)
    (leaves : Option (List (List ℕ))) (end : ℕ) (contents : Option Text)
    → ((b : Text) → contents ≡ Some b → IsDurableLog h v offsets leaves end b)
    → IfSome (option_map (durable_of end) contents) (AreKept h v offsets leaves)
kept_in h v offsets leaves end None durable = tt
kept_in h v offsets leaves end (Some b) durable = (durable b refl).kept

module _ {H D T : Type 0} {hashes : Hashes H} {g : Ghosts D} {k : Ghosts T} where
  pub log_keeps : (log : Log H D T hashes g k) → IfSome (log_records log)
      (AreKept hashes.hash (view_of log) (items_offsets log.machine.items)
      (items_leaves log.machine.items))
  log_keeps log =
      kept_in hashes.hash (view_of log) (items_offsets log.machine.items)
      (items_leaves log.machine.items) (end_of log.journal) (g.contents (disk_of log.journal))
      log.durable

  pub leaves_counted : (log : Log H D T hashes g k)
      → IfSome (log_leaves log) (λ list. (view_of log).size ≡ length list)
  leaves_counted log =
      counted_when hashes.hash (view_of log) (items_offsets log.machine.items)
      (items_leaves log.machine.items) (k.contents (log_tiles_disk log)) (log_records log)
      (log_keeps log)
