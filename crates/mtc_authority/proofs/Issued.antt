-- What comes of issuing on a log that was opened just now.
use Rattle.std.proofs.Common.{◌≡◌, ◌≢◌, ℕ, Bool, true, false, List, Option, None, Some}
use Rattle.std.proofs.Common.{option_map, Result, Ok, Err, if◌then◌else◌, refl, sym, ap, ◌∙◌}
use Rattle.std.proofs.Common.{inl, subst, IfSome, IsOk, ◌++◌, ◌∷◌, []}
use Rattle.byte_formats.specs.Types.{HashFunction, Text}
use Rattle.disk_core.specs.declared.disk.Disk.{Ghosts}
use Rattle.journal_core.specs.declared.error.AppendError.TheVariants as append_error
use Rattle.tree_core.specs.declared.hashing.TreeHash.{Ghosts as Hashes}
use Rattle.issuance_log.specs.Folds.{LogView, log_of, one_item_more}
use Rattle.issuance_log.specs.Refusals.{add_refusal}
use Rattle.issuance_log.specs.Words.{LogAppends, log_broken, log_disk, log_end, log_records}
use Rattle.issuance_log.specs.Shown.{shown_with}
use Rattle.issuance_log.specs.Words.{view_of}
use Rattle.issuance_log.specs.declared.error.LogError.{LogError}
use Rattle.issuance_log.specs.declared.error.LogError.TheVariants.{Full, TooLarge, Append, Memory}
use Rattle.issuance_log.specs.declared.log.Log.{Log as OpenLog}
use Rattle.authority_core.specs.Issues.{KeepsToOrMemory, issued_entry, issued_log, issued_record}
use Rattle.authority_core.specs.Issues.{of_log}
use Rattle.authority_core.specs.declared.issuing.error.IssueError.{IssueError}
use Rattle.authority_core.specs.declared.issuing.error.IssueError.TheVariants.{Log}
use Rattle.authority_core.specs.Requests.{RequestParts}
use Rattle.mtc_command.specs.Answers.{refused, replied, said}
use Rattle.mtc_command.specs.Steps.{Outcome}
use Rattle.mtc_command.specs.Valid.{AddsValid}
use Rattle.mtc_command.specs.Works.{journaled_by}
use Rattle.mtc_command.specs.declared.answer.Said.TheVariants.{Done}
use Rattle.mtc_command.specs.declared.answer.Stopped.TheVariants.{Beyond}
use Rattle.mtc_authority.specs.IssueOutcome.{MayRefuseEntry, issue_ending, issue_says, issued_by}
use Rattle.mtc_authority.specs.IssueOutcome.{issued_text}
use Rattle.issuance_log.specs.Reasons.{log_fault_text}
use Rattle.mtc_authority.specs.Works.{HasWorkedOnLog, IsLog, IsReadyLog, StaysLog}
use Rattle.mtc_authority.proofs.Appends.{done_so, failed_so, out_of_memory_so, modelled_so}
use Rattle.mtc_authority.proofs.Appends.{valid_so}

-- the answer of a call that refuses
abbrev pub failed : IssueError → Result ℕ IssueError
failed why = Err why

module _ {H D : Type 0} {hashes : Hashes H} {g : Ghosts D} (h : HashFunction) (r : RequestParts)
    (name : Text) (old new : OpenLog H D D hashes g g) (ready : IsReadyLog old) where
  abbrev refusal_by : LogView → Bool → ℕ → Option LogError
  refusal_by v broken end = add_refusal v broken end (issued_entry h v r) r.key

  abbrev pub refusal : Option LogError
  refusal = refusal_by (view_of old) (log_broken old) (log_end old)

  abbrev outcome_by : LogView → List Text → Option LogError → Outcome
  outcome_by = issued_by h r

  abbrev body : Text
  body = issued_record h (view_of old) r

  abbrev line : Text
  line = issued_text (view_of old).size

  -- what the call leaves, by its answer
  abbrev pub HasIssued : Result ℕ LogError → Type 0
  HasIssued result = LogAppends body one_item_more (issued_log h (view_of old) r) old new
      result

  pub issued_so : (index : ℕ) → refusal ≡ None → HasIssued (Ok index)
      → HasWorkedOnLog name (issue_says h r) old new (replied (said Done line))
  issued_so index free run = done_so outcome_by refusal_by name old new ready body
      line one_item_more (issued_log h (view_of old) r) (λ list. refl) free index run

  contents : (why : LogError) → refusal ≡ Some why → log_disk new ≡ log_disk old
      → HasWorkedOnLog name (issue_says h r) old new
      (replied (refused Beyond None (log_fault_text why)))
  contents why is same = modelled_so outcome_by refusal_by name old new ready why
      (refused Beyond None (log_fault_text why)) (λ list. refl) (λ e. absurd cc) is same

  pub refused_so : (why : IssueError) → HasIssued (of_log (Err why))
      → KeepsToOrMemory refusal (of_log (Err why))
      → HasWorkedOnLog name (issue_says h r) old new (issue_ending name why)
  refused_so (Log Full) run is = contents Full is run.journal.leaves.disk
  refused_so (Log TooLarge) run is = contents TooLarge is run.journal.leaves.disk
  refused_so (Log (Append append_error.Full)) run is =
      contents (Append append_error.Full) is run.journal.leaves.disk
  refused_so (Log (Append append_error.Broken)) run is =
      contents (Append append_error.Broken) is run.journal.leaves.disk
  refused_so (Log (Append append_error.Failed)) run is =
      failed_so outcome_by refusal_by name old new ready body line one_item_more
      (issued_log h (view_of old) r) (λ list. refl) is run
  refused_so (Log Memory) run is =
      out_of_memory_so outcome_by refusal_by name old new ready run.journal.leaves.disk
  refused_so (Log other) run is = absurd is

  -- a log that no append has broken doesn't refuse an entry as a broken one
  first : (full large over : Bool)
      → (if full then Some Full
      else (if large then Some TooLarge
      else option_map Append (if over then Some append_error.Full else None)))
      ≡ Some (Append append_error.Broken) → ⊥
  first true large over is = absurd cc
  first false true over is = absurd cc
  first false false true is = absurd cc
  first false false false is = absurd cc

  never_broken : refusal ≢ Some (Append append_error.Broken)
  unfolding add_refusal
  never_broken is =
      first _ _ _
      (sym (ap (λ broken. refusal_by (view_of old) broken (log_end old)) ready.sound) ∙ is)

  pub may_refuse : (why : IssueError) → KeepsToOrMemory refusal (of_log (Err why))
      → MayRefuseEntry why
  may_refuse (Log Full) is = tt
  may_refuse (Log TooLarge) is = tt
  may_refuse (Log Memory) is = tt
  may_refuse (Log (Append append_error.Failed)) is = tt
  may_refuse (Log (Append append_error.Full)) is = tt
  may_refuse (Log (Append append_error.Broken)) is = absurd (never_broken is)
  may_refuse (Log other) is = absurd is

  -- the record makes a log with those before it
  abbrev pub IsSoundAfter : List Text → Type 0
  IsSoundAfter list = log_of h (list ++ body ∷ [])
      ≡ Ok (issued_log h (view_of old) r (shown_with (view_of old) list))

  adds_valid : (list : List Text) (why : Option LogError) → (why ≡ None → IsSoundAfter list)
      → AddsValid (IsLog h) (journaled_by (outcome_by (view_of old) list why))
  adds_valid list None sound = subst IsOk (sym (sound refl)) refl
  adds_valid list (Some why) sound = tt

  pub issued_valid : (refusal ≡ None → IfSome (log_records old) IsSoundAfter)
      → StaysLog h (issue_says h r) old new
  issued_valid sound = valid_so outcome_by refusal_by name old new ready (IsLog h)
      IsSoundAfter adds_valid sound

  pub refused_valid : (why : IssueError) → HasIssued (of_log (Err why))
      → (failed why ≢ failed (Log Memory) → refusal ≡ None
      → IfSome (log_records old) IsSoundAfter)
      → StaysLog h (issue_says h r) old new
  refused_valid (Log Memory) run sound = inl (inl run.journal.leaves.disk)
  refused_valid (Log other) run sound = issued_valid (sound (λ is. absurd cc))
