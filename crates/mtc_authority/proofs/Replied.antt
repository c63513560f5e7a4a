-- What comes of a work that only reads a log.
use Rattle.std.proofs.Common.{◌≡◌, ◌≢◌, ℕ, ◌≤◌, Option, Some, None, IfSome}
use Rattle.std.proofs.Common.{option_map, inl, inr, ap, ◌∙◌, subst}
use Rattle.std.specs.Prelude.{option_and_then}
use Rattle.std.proofs.lemmas.Option.{IfSome_then}
use Rattle.byte_formats.specs.Types.{Text}
use Rattle.disk_core.specs.declared.disk.Disk.{Ghosts}
use Rattle.mtc_io.specs.Counts.{Rose}
use Rattle.tree_core.specs.declared.hashing.TreeHash.{Ghosts as Hashes}
use Rattle.issuance_log.specs.Folds.{LogState, view_in}
use Rattle.issuance_log.specs.Shown.{shown_with}
use Rattle.issuance_log.specs.Words.{LogAsksTiles, LogStays, log_disk, log_end, log_records}
use Rattle.issuance_log.specs.Words.{log_tiles_disk}
use Rattle.issuance_log.specs.Words.{modelled_by_both, modelled_state, view_of}
use Rattle.issuance_log.specs.declared.log.Log.{Log}
use Rattle.journal_core.specs.Ends.{durable_of}
use Rattle.mtc_command.specs.Answers.{Ending, Reply, no_memory, replied, room_failed, status_of}
use Rattle.mtc_command.specs.Answers.{tiles_name}
use Rattle.mtc_command.proofs.Served.{rose_since}
use Rattle.authority_core.proofs.Modelled.{both_of}
use Rattle.mtc_authority.specs.LogOutcomes.{StopsAt}
use Rattle.mtc_authority.specs.Works.{RepliesOnLog}

-- ---- if the model knows the log of both disks

-- two facts
pub both_so : {X : Type 0} (P Q : X → Type 0) (o : Option X) → IfSome o P → IfSome o Q
    → IfSome o (λ x. P x × Q x)
both_so P Q None first second = tt
both_so P Q (Some x) first second = (first, second)

-- ---- the work

module _ {H D : Type 0} {hashes : Hashes H} {g : Ghosts D} where
  -- what the model knows of both disks stays where nodes alone were asked for
  pub both_modelled : (old new : Log H D D hashes g g) → LogAsksTiles old new
      → modelled_by_both new ≡ modelled_by_both old
  both_modelled old new is =
      ap (λ v. option_map (shown_with v) (option_and_then (λ (t : Text). log_records new)
      (g.contents (log_tiles_disk new)))) is.view
      ∙ ap (λ n. option_map (shown_with (view_of old)) (option_and_then
      (λ (t : Text). option_map (durable_of n) (g.contents (log_disk new)))
      (g.contents (log_tiles_disk new)))) is.end
      ∙ ap (λ d. option_map (shown_with (view_of old)) (option_and_then
      (λ (t : Text). option_map (durable_of (log_end old)) (g.contents d))
      (g.contents (log_tiles_disk new)))) is.disk
      ∙ ap (λ o. option_map (shown_with (view_of old)) (option_and_then
      (λ (t : Text). log_records old) o)) is.tiles.contents

  -- so a fact of what it knows after that is one of what it knew before
  pub both_before : (P : LogState → Type 0) (old new : Log H D D hashes g g)
      → LogAsksTiles old new → IfSome (modelled_by_both new) P → IfSome (modelled_by_both old) P
  both_before P old new is fact = subst (λ (o : Option LogState). IfSome o P)
      (both_modelled old new is) fact

  -- a fact of the log that the journal has, as the model knows it
  pub modelled_both : (P : LogState → Type 0) (log : Log H D D hashes g g)
      → IfSome (modelled_state log) P
      → IfSome (modelled_by_both log) P
  modelled_both P log is =
      both_of P (view_of log) (g.contents (log_tiles_disk log)) (log_records log) is

  module _ (name : Text) (wanted : LogState → Reply) (old new : Log H D D hashes g g)
      (stays : LogStays old new) where
    -- it replies so to what both disks have, as the model knows it
    pub modelled_so : (reply : Reply) → status_of reply ≢ 1
        → IfSome (modelled_by_both old) (λ s. reply ≡ wanted s)
        → RepliesOnLog name wanted old new (replied reply)
    modelled_so reply code is = record { plain = code; fault = tt; reply = is; stays = stays }

    -- it replies so to what the log shows over every disk
    pub shown_so : (reply : Reply) → status_of reply ≢ 1
        → IfSome (modelled_state old) (λ s. view_in s ≡ view_of old)
        → ((s : LogState) → view_in s ≡ view_of old → reply ≡ wanted s)
        → RepliesOnLog name wanted old new (replied reply)
    shown_so reply code shows means = modelled_so reply code
        (IfSome_then (modelled_by_both old) (modelled_both (λ s. view_in s ≡ view_of old) old shows)
        means)

    -- memory was refused
    pub out_of_memory_so : RepliesOnLog name wanted old new no_memory
    out_of_memory_so = record { plain = tt; fault = tt; reply = tt; stays = stays }

    -- it ended without a reply, at the journal or at the tiles
    pub at_journal : (ending : Ending)
        → StopsAt (Rose (g.faults (log_disk old)) (g.faults (log_disk new))) name ending
        → RepliesOnLog name wanted old new ending
    at_journal (replied reply) is = absurd is
    at_journal (room_failed at) is =
        record { plain = tt; fault = inl is; reply = tt; stays = stays }
    at_journal no_memory is = out_of_memory_so

    pub at_tiles : (ending : Ending)
        → StopsAt (Rose (g.faults (log_tiles_disk old)) (g.faults (log_tiles_disk new)))
        (tiles_name name) ending → RepliesOnLog name wanted old new ending
    at_tiles (replied reply) is = absurd is
    at_tiles (room_failed at) is =
        record { plain = tt; fault = inr is; reply = tt; stays = stays }
    at_tiles no_memory is = out_of_memory_so

-- ---- failures of more than one call

pub stops_later : (before mid after : ℕ) (file : Text) → before ≤ mid → (ending : Ending)
    → StopsAt (Rose mid after) file ending → StopsAt (Rose before after) file ending
stops_later before mid after file le (replied reply) is = is
stops_later before mid after file le (room_failed at) is =
    (is.0, rose_since before mid after le is.1)
stops_later before mid after file le no_memory is = tt
