-- What stays of a log that was asked, for the layers above.
use Rattle.std.proofs.Common.{◌≡◌, Err, option_map, ap, refl, sym, subst, ◌∙◌}
use Rattle.std.specs.Prelude.{option_and_then}
use Rattle.byte_formats.specs.Types.{Text}
use Rattle.disk_core.proofs.Times.{nothing_read}
use Rattle.disk_core.specs.Times.{OnlyReads}
use Rattle.disk_core.specs.declared.disk.Disk.{Ghosts}
use Rattle.journal_core.specs.Ends.{durable_of}
use Rattle.tree_core.specs.declared.hashing.TreeHash.{Ghosts as Hashes}
use Rattle.issuance_log.specs.Folds.{LogState, LogView}
use Rattle.issuance_log.specs.Shown.{shown_with}
use Rattle.issuance_log.specs.Words.{LogAppends, LogAsksTiles, LogStays, both_records, log_disk}
use Rattle.issuance_log.specs.Words.{log_end, log_records, log_tiles_disk, modelled_by_both}
use Rattle.issuance_log.specs.Words.{modelled_state, view_of}
use Rattle.issuance_log.specs.declared.error.LogError.TheVariants.{Memory}
use Rattle.issuance_log.specs.declared.log.Log.{Log}
use Rattle.issuance_log.proofs.Leaving.{appends_not}

module _ {H D T : Type 0} {hashes : Hashes H} {g : Ghosts D} {k : Ghosts T} where
  -- If nodes alone were asked for, the journal's disk was only read.
  pub asks_stays : (old new : Log H D T hashes g k)
      → ((c : Text) → g.left_since (log_disk old) (g.clock_at (log_disk old)) c
      → g.may_leave (log_disk old) c) → LogAsksTiles old new → LogStays old new
  asks_stays old new only_now is = record {
    only_reads = subst (λ (d : D). OnlyReads g (log_disk old) d) (sym is.disk)
        (nothing_read g (log_disk old) only_now);
    tiles = is.tiles;
    view = is.view;
    end = is.end;
    broken = is.broken;
  }

  -- so what the model knows of it stays
  pub asks_modelled : (old new : Log H D T hashes g k) → LogAsksTiles old new
      → modelled_state new ≡ modelled_state old
  asks_modelled old new is =
      ap (λ v. option_map (shown_with v) (log_records new)) is.view
      ∙ ap (λ n. option_map (shown_with (view_of old)) (option_map (durable_of n)
      (g.contents (log_disk new)))) is.end
      ∙ ap (λ d. option_map (shown_with (view_of old)) (option_map (durable_of (log_end old))
      (g.contents d))) is.disk

  -- What the model knows of the disks stays.
  module _ (old new : Log H D T hashes g k) (is : LogStays old new) where
    pub records_stay : log_records new ≡ log_records old
    records_stay =
        ap (λ n. option_map (durable_of n) (g.contents (log_disk new))) is.end
        ∙ ap (option_map (durable_of (log_end old))) is.only_reads.contents

    pub modelled_stays : modelled_state new ≡ modelled_state old
    modelled_stays =
        ap (λ v. option_map (shown_with v) (log_records new)) is.view
        ∙ ap (option_map (shown_with (view_of old))) records_stay

    pub both_stay : both_records new ≡ both_records old
    both_stay =
        ap (λ o. option_and_then (λ tiles. log_records new) o) is.tiles.contents
        ∙ ap (λ r. option_and_then (λ tiles. r) (k.contents (log_tiles_disk old))) records_stay

    pub modelled_by_both_stays : modelled_by_both new ≡ modelled_by_both old
    modelled_by_both_stays =
        ap (λ v. option_map (shown_with v) (both_records new)) is.view
        ∙ ap (option_map (shown_with (view_of old))) both_stay

-- What a call leaves that is refused memory before it touches the log.
pub not_touched : {H D T X : Type 0} {hashes : Hashes H} {g : Ghosts D} {k : Ghosts T}
    (log : Log H D T hashes g k) (body : Text) (seen : LogView → LogView)
    (next : LogState → LogState)
    → ((c : Text) → g.left_since (log_disk log) (g.clock_at (log_disk log)) c
    → g.may_leave (log_disk log) c)
    → LogAppends {X = X} body seen next log log (Err Memory)
not_touched log body seen next only_now =
    appends_not log log refl refl refl body seen next (Err Memory) Memory refl refl only_now
