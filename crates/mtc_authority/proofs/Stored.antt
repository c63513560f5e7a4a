-- What comes of storing tiles of a log that was opened just now.
use Rattle.std.proofs.Common.{◌≡◌, ◌≢◌, ℕ, Bool, true, false, List, Option, None, Some, option_map}
use Rattle.std.proofs.Common.{Result, Ok, Err, if◌then◌else◌, inl, inr, refl, sym, ap, ◌∙◌}
use Rattle.std.proofs.Common.{arith, subst, IfSome, IsOk, ◌++◌, ◌∷◌, []}
use Rattle.byte_formats.specs.Types.{HashFunction, Text}
use Rattle.disk_core.specs.declared.disk.Disk.{Ghosts}
use Rattle.disk_core.proofs.Times.{started}
use Rattle.journal_core.specs.Format.{RepresentsEither}
use Rattle.journal_core.specs.declared.error.AppendError.TheVariants as append_error
use Rattle.mtc_io.specs.Counts.{Rose}
use Rattle.tree_core.specs.declared.hashing.TreeHash.{Ghosts as Hashes}
use Rattle.issuance_log.specs.Entries.{LogCounts}
use Rattle.issuance_log.specs.Folds.{LogView, log_of, tiled_to, view_in, with_tiles}
use Rattle.issuance_log.specs.Records.{tiles_record}
use Rattle.issuance_log.specs.Refusals.{TilesKeepTo, full_size, tile_refusal}
use Rattle.issuance_log.specs.Shown.{shown_with}
use Rattle.issuance_log.specs.Words.{LogAppends, both_records, log_broken, log_disk, log_end}
use Rattle.issuance_log.specs.Words.{log_records, log_tiles_disk, view_of}
use Rattle.issuance_log.specs.declared.error.LogError.{LogError}
use Rattle.issuance_log.specs.declared.error.LogError.TheVariants.{NothingNew, Append, Memory}
use Rattle.issuance_log.specs.declared.error.LogError.TheVariants.{Failed as DiskFailed}
use Rattle.issuance_log.specs.declared.log.Log.{Log as OpenLog}
use Rattle.mtc_command.specs.Answers.{no_memory, replied, room_failed, said, status_of}
use Rattle.mtc_command.specs.Answers.{tiles_name}
use Rattle.mtc_command.specs.Made.{IsOpen, MayAdd}
use Rattle.mtc_command.specs.Steps.{Outcome}
use Rattle.mtc_command.specs.Valid.{AddsValid}
use Rattle.mtc_command.specs.Works.{journaled_by}
use Rattle.mtc_command.specs.declared.answer.Said.TheVariants.{Done}
use Rattle.mtc_command.proofs.Made.{OnlyNow}
use Rattle.mtc_command.proofs.Works.{each_some}
use Rattle.mtc_authority.specs.TileOutcome.{MayRefuseTiles, tile_says, tiled_by, tiled_line}
use Rattle.mtc_authority.specs.TileOutcome.{tiles_ending, tiles_refused}
use Rattle.mtc_authority.specs.Works.{HasWorkedOnLog, IsLog, IsReadyLog, StaysLog, found_log}
use Rattle.mtc_authority.proofs.Appends.{done_so, failed_so, out_of_memory_so, modelled_so}
use Rattle.mtc_authority.proofs.Appends.{valid_so}

module _ {H D : Type 0} {hashes : Hashes H} {g : Ghosts D} (name : Text)
    (old new : OpenLog H D D hashes g g) (ready : IsReadyLog old) where
  abbrev refusal_by : LogView → Bool → ℕ → Option LogError
  refusal_by v broken end = tile_refusal v broken end

  abbrev pub refusal : Option LogError
  refusal = refusal_by (view_of old) (log_broken old) (log_end old)

  abbrev outcome_by : LogView → List Text → Option LogError → Outcome
  outcome_by = tiled_by

  abbrev size : ℕ
  size = full_size (view_of old)

  -- what the call leaves, by its answer
  abbrev pub HasTiled : Result ℕ LogError → Type 0
  HasTiled result = LogAppends (tiles_record size) (tiled_to size) (with_tiles size) old new result

  pub tiled_so : (answer : ℕ) → refusal ≡ None → HasTiled (Ok answer)
      → HasWorkedOnLog name tile_says old new (replied (said Done (tiled_line size)))
  tiled_so answer free run = done_so outcome_by refusal_by name old new ready (tiles_record size)
      (tiled_line size) (tiled_to size) (with_tiles size) (λ list. refl) free answer run

  contents : (why : LogError) → status_of (tiles_refused why) ≢ 1 → refusal ≡ Some why
      → log_disk new ≡ log_disk old
      → HasWorkedOnLog name tile_says old new (replied (tiles_refused why))
  contents why code is same = modelled_so outcome_by refusal_by name old new ready why
      (tiles_refused why) (λ list. refl) code is same

  -- the device of the tiles failed, and that of the journal had no call
  may_add : (v : LogView) (list : List Text) (why : Option LogError) → OnlyNow g
      → IsOpen g (log_disk old) list
      → MayAdd g (journaled_by (tiled_by v list why)) (log_disk old) (log_disk old)
  may_add v list None only_now opened = (
    opened,
    started g (log_disk old) (RepresentsEither list (tiles_record (full_size v)))
        (only_now (log_disk old)) (λ c left. inl (opened.all c left)),
    λ c left. inl (opened.all c left),
  )
  may_add v list (Some why) only_now opened = (opened, inl refl)

  beside_so : OnlyNow g → Rose (g.faults (log_tiles_disk old)) (g.faults (log_tiles_disk new))
      → log_disk new ≡ log_disk old
      → HasWorkedOnLog name tile_says old new (room_failed (tiles_name name))
  beside_so only_now rose same = record {
    ends = record {
      plain = tt;
      later = (let fine = ap g.faults same in omega (arith, fine));
      fault = inr (refl, rose);
    };
    reply = tt;
    adds = each_some (both_records old) _ (λ list opened.
        subst (MayAdd g (journaled_by (tile_says (found_log (shown_with (view_of old) list) list)))
        (log_disk old)) (sym same)
        (may_add (view_in (shown_with (view_of old) list)) list _ only_now opened));
  }

  pub refused_so : OnlyNow g → (why : LogError) → MayRefuseTiles why → HasTiled (Err why)
      → TilesKeepTo refusal (Err why)
      → LogCounts {X = ℕ} (g.faults (log_tiles_disk old)) (g.faults (log_tiles_disk new)) (Err why)
      → HasWorkedOnLog name tile_says old new (tiles_ending name why)
  refused_so only_now NothingNew may run is counts =
      contents NothingNew (λ e. absurd cc) is run.journal.leaves.disk
  refused_so only_now DiskFailed may run is counts =
      beside_so only_now counts run.journal.leaves.disk
  refused_so only_now (Append append_error.Full) may run is counts =
      contents (Append append_error.Full) (λ e. absurd cc) is run.journal.leaves.disk
  refused_so only_now (Append append_error.Failed) may run is counts =
      failed_so outcome_by refusal_by name old new ready (tiles_record size) (tiled_line size)
      (tiled_to size) (with_tiles size) (λ list. refl) is run
  refused_so only_now Memory may run is counts =
      out_of_memory_so outcome_by refusal_by name old new ready run.journal.leaves.disk
  refused_so only_now other may run is counts = absurd may

  -- memory was refused before
  pub unstored : log_disk new ≡ log_disk old → HasWorkedOnLog name tile_says old new no_memory
  unstored same = out_of_memory_so outcome_by refusal_by name old new ready same

  -- a log that no append has broken doesn't refuse tiles as a broken one
  first : (nothing over : Bool)
      → (if nothing then Some NothingNew
      else option_map Append (if over then Some append_error.Full else None))
      ≡ Some (Append append_error.Broken) → ⊥
  first true over is = absurd cc
  first false true is = absurd cc
  first false false is = absurd cc

  pub may_refuse : (why : LogError) → TilesKeepTo refusal (Err why) → MayRefuseTiles why
  unfolding tile_refusal
  may_refuse NothingNew is = tt
  may_refuse DiskFailed is = tt
  may_refuse Memory is = tt
  may_refuse (Append append_error.Failed) is = tt
  may_refuse (Append append_error.Full) is = tt
  may_refuse (Append append_error.Broken) is =
      first _ _
      (sym (ap (λ broken. refusal_by (view_of old) broken (log_end old)) ready.sound) ∙ is)
  may_refuse other is = absurd is

  -- the record makes a log with those before it
  module _ (h : HashFunction) where
    abbrev pub IsSoundAfter : List Text → Type 0
    IsSoundAfter list = log_of h (list ++ tiles_record size ∷ [])
        ≡ Ok (with_tiles size (shown_with (view_of old) list))

    adds_valid : (list : List Text) (why : Option LogError) → (why ≡ None → IsSoundAfter list)
        → AddsValid (IsLog h) (journaled_by (outcome_by (view_of old) list why))
    adds_valid list None sound = subst IsOk (sym (sound refl)) refl
    adds_valid list (Some why) sound = tt

    pub tiled_valid : (refusal ≡ None → IfSome (log_records old) IsSoundAfter)
        → StaysLog h tile_says old new
    tiled_valid sound = valid_so outcome_by refusal_by name old new ready (IsLog h)
        IsSoundAfter adds_valid sound
