-- What comes of setting a landmark on a log that was opened just now.
use Rattle.std.proofs.Common.{◌≡◌, ◌≢◌, ℕ, Bool, true, false, List, Option, None, Some, option_map}
use Rattle.std.proofs.Common.{Result, Ok, Err, if◌then◌else◌, refl, sym, ap, ◌∙◌}
use Rattle.std.proofs.Common.{subst, IfSome, IsOk, ◌++◌, ◌∷◌, []}
use Rattle.byte_formats.specs.Types.{HashFunction, Text}
use Rattle.disk_core.specs.declared.disk.Disk.{Ghosts}
use Rattle.journal_core.specs.declared.error.AppendError.TheVariants as append_error
use Rattle.tree_core.specs.declared.hashing.TreeHash.{Ghosts as Hashes}
use Rattle.issuance_log.specs.Folds.{LogView, log_of, one_mark_more, with_mark}
use Rattle.issuance_log.specs.Records.{landmark_record}
use Rattle.issuance_log.specs.Refusals.{MarkKeepsTo, mark_refusal}
use Rattle.issuance_log.specs.Words.{LogAppends, log_broken, log_disk, log_end, log_records}
use Rattle.issuance_log.specs.Shown.{shown_with}
use Rattle.issuance_log.specs.Words.{view_of}
use Rattle.issuance_log.specs.declared.error.LogError.{LogError}
use Rattle.issuance_log.specs.declared.error.LogError.TheVariants.{NothingNew, Append, Memory}
use Rattle.issuance_log.specs.declared.log.Log.{Log as OpenLog}
use Rattle.mtc_command.specs.Answers.{replied, said, status_of}
use Rattle.mtc_command.specs.Steps.{Outcome}
use Rattle.mtc_command.specs.Valid.{AddsValid}
use Rattle.mtc_command.specs.Works.{journaled_by}
use Rattle.mtc_command.specs.declared.answer.Said.TheVariants.{Done}
use Rattle.mtc_authority.specs.LandmarkOutcomes.{MayRefuseMark, landmark_says, mark_ending}
use Rattle.mtc_authority.specs.LandmarkOutcomes.{mark_refused}
use Rattle.mtc_authority.specs.LandmarkOutcomes.{marked_by, next_line}
use Rattle.mtc_authority.specs.Works.{HasWorkedOnLog, IsLog, IsReadyLog, StaysLog}
use Rattle.mtc_authority.proofs.Appends.{done_so, failed_so, out_of_memory_so, modelled_so}
use Rattle.mtc_authority.proofs.Appends.{valid_so}

module _ {H D : Type 0} {hashes : Hashes H} {g : Ghosts D} (name : Text)
    (old new : OpenLog H D D hashes g g) (ready : IsReadyLog old) where
  abbrev refusal_by : LogView → Bool → ℕ → Option LogError
  refusal_by v broken end = mark_refusal v broken end

  abbrev pub refusal : Option LogError
  refusal = refusal_by (view_of old) (log_broken old) (log_end old)

  abbrev outcome_by : LogView → List Text → Option LogError → Outcome
  outcome_by = marked_by

  abbrev body : Text
  body = landmark_record (view_of old).size

  -- what the call leaves, by its answer
  abbrev pub HasMarked : Result (ℕ × ℕ) LogError → Type 0
  HasMarked result = LogAppends body one_mark_more with_mark old new result

  pub marked_so : (landmark : ℕ × ℕ) → refusal ≡ None → HasMarked (Ok landmark)
      → HasWorkedOnLog name landmark_says old new (replied (said Done (next_line (view_of old))))
  marked_so landmark free run = done_so outcome_by refusal_by name old new ready
      body (next_line (view_of old)) one_mark_more with_mark (λ list. refl) free landmark run

  contents : (why : LogError) → status_of (mark_refused why) ≢ 1 → refusal ≡ Some why
      → log_disk new ≡ log_disk old
      → HasWorkedOnLog name landmark_says old new (replied (mark_refused why))
  contents why code is same = modelled_so outcome_by refusal_by name old new ready why
      (mark_refused why) (λ list. refl) code is same

  pub refused_so : (why : LogError) → MayRefuseMark why → HasMarked (Err why)
      → MarkKeepsTo refusal (Err why) → HasWorkedOnLog name landmark_says old new
      (mark_ending name why)
  refused_so NothingNew may run is = contents NothingNew (λ e. absurd cc) is run.journal.leaves.disk
  refused_so (Append append_error.Full) may run is =
      contents (Append append_error.Full) (λ e. absurd cc) is run.journal.leaves.disk
  refused_so (Append append_error.Failed) may run is =
      failed_so outcome_by refusal_by name old new ready body (next_line (view_of old))
      one_mark_more with_mark (λ list. refl) is run
  refused_so Memory may run is =
      out_of_memory_so outcome_by refusal_by name old new ready run.journal.leaves.disk
  refused_so other may run is = absurd may

  -- a log that no append has broken doesn't refuse a landmark as a broken one
  first : (nothing over : Bool)
      → (if nothing then Some NothingNew
      else option_map Append (if over then Some append_error.Full else None))
      ≡ Some (Append append_error.Broken) → ⊥
  first true over is = absurd cc
  first false true is = absurd cc
  first false false is = absurd cc

  pub may_refuse : (why : LogError) → MarkKeepsTo refusal (Err why) → MayRefuseMark why
  unfolding mark_refusal
  may_refuse NothingNew is = tt
  may_refuse Memory is = tt
  may_refuse (Append append_error.Failed) is = tt
  may_refuse (Append append_error.Full) is = tt
  may_refuse (Append append_error.Broken) is =
      first _ _
      (sym (ap (λ broken. refusal_by (view_of old) broken (log_end old)) ready.sound) ∙ is)
  may_refuse other is = absurd is

  -- the record makes a log with those before it
  module _ (h : HashFunction) where
    abbrev pub IsSoundAfter : List Text → Type 0
    IsSoundAfter list =
        log_of h (list ++ body ∷ []) ≡ Ok (with_mark (shown_with (view_of old) list))

    adds_valid : (list : List Text) (why : Option LogError) → (why ≡ None → IsSoundAfter list)
        → AddsValid (IsLog h) (journaled_by (outcome_by (view_of old) list why))
    adds_valid list None sound = subst IsOk (sym (sound refl)) refl
    adds_valid list (Some why) sound = tt

    pub marked_valid : (refusal ≡ None → IfSome (log_records old) IsSoundAfter)
        → StaysLog h landmark_says old new
    marked_valid sound = valid_so outcome_by refusal_by name old new ready (IsLog h)
        IsSoundAfter adds_valid sound
