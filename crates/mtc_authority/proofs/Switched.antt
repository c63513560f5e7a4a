-- What comes of switching a log that was opened just now.
use Rattle.std.proofs.Common.{◌≡◌, ◌≢◌, ℕ, Bool, true, false, List, Option, None, Some}
use Rattle.std.proofs.Common.{Result, Ok, Err, if◌then◌else◌, refl, sym, ap, ◌∙◌}
use Rattle.std.proofs.Common.{subst, IfSome, IsOk, ◌++◌, ◌∷◌, []}
use Rattle.byte_formats.specs.Types.{HashFunction, Text}
use Rattle.disk_core.specs.declared.disk.Disk.{Ghosts}
use Rattle.journal_core.specs.declared.error.AppendError.TheVariants as append_error
use Rattle.tree_core.specs.declared.hashing.TreeHash.{Ghosts as Hashes}
use Rattle.issuance_log.specs.Folds.{LogView, log_of, switched_now, with_switch}
use Rattle.issuance_log.specs.Records.{switch_record}
use Rattle.issuance_log.specs.Refusals.{SwitchKeepsTo, switch_refusal, unless_switched}
use Rattle.issuance_log.specs.Words.{LogAppends, log_broken, log_disk, log_end, log_records}
use Rattle.issuance_log.specs.Shown.{shown_with}
use Rattle.issuance_log.specs.Words.{view_of}
use Rattle.issuance_log.specs.declared.error.LogError.{LogError}
use Rattle.issuance_log.specs.declared.error.LogError.TheVariants.{AlreadySwitched, Append}
use Rattle.issuance_log.specs.declared.error.LogError.TheVariants.{Memory}
use Rattle.issuance_log.specs.declared.log.Log.{Log as OpenLog}
use Rattle.mtc_command.specs.Answers.{replied, said, status_of}
use Rattle.mtc_command.specs.Steps.{Outcome}
use Rattle.mtc_command.specs.Valid.{AddsValid}
use Rattle.mtc_command.specs.Works.{journaled_by}
use Rattle.mtc_command.specs.declared.answer.Said.TheVariants.{Done}
use Rattle.mtc_authority.specs.SwitchOutcome.{MayRefuseSwitch, switch_ending, switch_refused}
use Rattle.mtc_authority.specs.SwitchOutcome.{switch_says, switched_by, switched_line}
use Rattle.mtc_authority.specs.Works.{HasWorkedOnLog, IsLog, IsReadyLog, StaysLog}
use Rattle.mtc_authority.proofs.Appends.{done_so, failed_so, out_of_memory_so, modelled_so}
use Rattle.mtc_authority.proofs.Appends.{valid_so}

module _ {H D : Type 0} {hashes : Hashes H} {g : Ghosts D} (name : Text)
    (old new : OpenLog H D D hashes g g) (ready : IsReadyLog old) where
  abbrev refusal_by : LogView → Bool → ℕ → Option LogError
  refusal_by v broken end = switch_refusal v broken end

  abbrev pub refusal : Option LogError
  refusal = refusal_by (view_of old) (log_broken old) (log_end old)

  abbrev outcome_by : LogView → List Text → Option LogError → Outcome
  outcome_by = switched_by

  abbrev body : Text
  body = switch_record (view_of old).size

  -- what the call leaves, by its answer
  abbrev pub HasSwitched : Result ℕ LogError → Type 0
  HasSwitched result = LogAppends body switched_now with_switch old new result

  pub switched_so : (index : ℕ) → refusal ≡ None → HasSwitched (Ok index)
      → HasWorkedOnLog name switch_says old new
      (replied (said Done (switched_line (view_of old).size)))
  switched_so index free run = done_so outcome_by refusal_by name old new ready
      body (switched_line (view_of old).size) switched_now with_switch (λ list. refl) free index run

  contents : (why : LogError) → status_of (switch_refused why) ≢ 1 → refusal ≡ Some why
      → log_disk new ≡ log_disk old
      → HasWorkedOnLog name switch_says old new (replied (switch_refused why))
  contents why code is same = modelled_so outcome_by refusal_by name old new ready why
      (switch_refused why) (λ list. refl) code is same

  pub refused_so : (why : LogError) → MayRefuseSwitch why → HasSwitched (Err why)
      → SwitchKeepsTo refusal (Err why) → HasWorkedOnLog name switch_says old new
      (switch_ending name why)
  refused_so (AlreadySwitched index) may run is =
      contents (AlreadySwitched index) (λ e. absurd cc) is run.journal.leaves.disk
  refused_so (Append append_error.Full) may run is =
      contents (Append append_error.Full) (λ e. absurd cc) is run.journal.leaves.disk
  refused_so (Append append_error.Failed) may run is =
      failed_so outcome_by refusal_by name old new ready body (switched_line (view_of old).size)
      switched_now with_switch (λ list. refl) is run
  refused_so Memory may run is =
      out_of_memory_so outcome_by refusal_by name old new ready run.journal.leaves.disk
  refused_so other may run is = absurd may

  -- a log that no append has broken doesn't refuse a switch as a broken one
  first : (switched : Option ℕ) (over : Bool)
      → unless_switched switched (if over then Some append_error.Full else None)
      ≡ Some (Append append_error.Broken) → ⊥
  first (Some index) over is = absurd cc
  first None true is = absurd cc
  first None false is = absurd cc

  pub may_refuse : (why : LogError) → SwitchKeepsTo refusal (Err why) → MayRefuseSwitch why
  unfolding switch_refusal
  may_refuse (AlreadySwitched index) is = tt
  may_refuse Memory is = tt
  may_refuse (Append append_error.Failed) is = tt
  may_refuse (Append append_error.Full) is = tt
  may_refuse (Append append_error.Broken) is =
      first _ _
      (sym (ap (λ broken. refusal_by (view_of old) broken (log_end old)) ready.sound) ∙ is)
  may_refuse other is = absurd is

  -- the record makes a log with those before it
  module _ (h : HashFunction) where
    abbrev pub IsSoundAfter : List Text → Type 0
    IsSoundAfter list =
        log_of h (list ++ body ∷ []) ≡ Ok (with_switch (shown_with (view_of old) list))

    adds_valid : (list : List Text) (why : Option LogError) → (why ≡ None → IsSoundAfter list)
        → AddsValid (IsLog h) (journaled_by (outcome_by (view_of old) list why))
    adds_valid list None sound = subst IsOk (sym (sound refl)) refl
    adds_valid list (Some why) sound = tt

    pub switched_valid : (refusal ≡ None → IfSome (log_records old) IsSoundAfter)
        → StaysLog h switch_says old new
    switched_valid sound = valid_so outcome_by refusal_by name old new ready (IsLog h)
        IsSoundAfter adds_valid sound
