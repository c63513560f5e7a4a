-- The work on a log that only reads it.
use Rattle.std.proofs.Common.{◌≡◌, ◌∙◌, IfSome, ap, inr, sym}
use Rattle.std.proofs.lemmas.Option.{IfSome_then}
use Rattle.byte_formats.specs.Types.{Text}
use Rattle.disk_core.specs.declared.disk.Disk.{Ghosts}
use Rattle.tree_core.specs.declared.hashing.TreeHash.{Ghosts as Hashes}
use Rattle.issuance_log.specs.Folds.{LogState, view_in}
use Rattle.issuance_log.specs.Shown.{shown_with}
use Rattle.issuance_log.specs.Words.{LogStays, both_records, log_disk, log_tiles_disk}
use Rattle.issuance_log.specs.Words.{modelled_by_both, modelled_state, view_of}
use Rattle.issuance_log.specs.declared.log.Log.{Log as OpenLog}
use Rattle.mtc_command.specs.Answers.{Ending, Reply, no_memory, replied, room_failed}
use Rattle.mtc_command.specs.Endings.{Replies}
use Rattle.mtc_command.specs.Steps.{answers_on}
use Rattle.mtc_command.specs.Wanted.{exactly}
use Rattle.mtc_command.proofs.Served.{reply_so}
use Rattle.mtc_command.proofs.Tiled.{read_tiled}
use Rattle.mtc_authority.specs.LandmarkOutcomes.{landmarks_reply}
use Rattle.mtc_authority.specs.Works.{HasWorkedOnLog, RepliesOnLog}
use Rattle.mtc_authority.proofs.Appends.{mapped_some}
use Rattle.mtc_authority.proofs.Replied.{modelled_both}

module _ {H D : Type 0} {hashes : Hashes H} {g : Ghosts D} (name : Text)
    (old new : OpenLog H D D hashes g g) (ending : Ending) where
  -- it has worked as is wanted
  pub worked_by : (wanted : LogState → Reply) → RepliesOnLog name wanted old new ending
      → HasWorkedOnLog name (λ found. answers_on found.records (wanted found.state)) old new ending
  worked_by wanted is = read_tiled g name (both_records old) (log_disk old) (log_disk new)
      (log_tiles_disk old) (log_tiles_disk new)
      (λ list. wanted (shown_with (view_of old) list)) ending (inr is.stays.only_reads)
      (record { plain = is.plain; later = is.stays.only_reads.faults; fault = is.fault })
      (reply_so ending _ _ (λ reply contents. mapped_some (shown_with (view_of old))
      (both_records old) (λ s. reply ≡ wanted s) contents) is.reply)

module _ {H D : Type 0} {hashes : Hashes H} {g : Ghosts D} (name : Text)
    (old new : OpenLog H D D hashes g g) where
  -- it prints the landmarks that the log shows
  pub landmarks_so : (ending : Ending) → LogStays old new
      → IfSome (modelled_state old) (λ s. view_in s ≡ view_of old)
      → Replies (exactly (landmarks_reply (view_of old))) ending
      → RepliesOnLog name (λ s. landmarks_reply (view_in s)) old new ending
  landmarks_so (replied reply) stays shows is = record {
    plain = is.1;
    fault = tt;
    reply = IfSome_then (modelled_by_both old)
        (modelled_both (λ s. view_in s ≡ view_of old) old shows)
        (λ s same. is.0 ∙ ap landmarks_reply (sym same));
    stays = stays;
  }
  landmarks_so (room_failed at) stays shows is = absurd is
  landmarks_so no_memory stays shows is =
      record { plain = tt; fault = tt; reply = tt; stays = stays }
