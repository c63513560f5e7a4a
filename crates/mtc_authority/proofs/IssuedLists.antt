-- What comes of issuing several entries on a log that was opened just now.
use Rattle.std.proofs.Common.{◌≡◌, ◌≢◌, ℕ, zero, suc, ◌+◌, ◌-◌, ◌≤◌, Bool, true, false, List}
use Rattle.std.proofs.Common.{Option, None, Some}
use Rattle.std.proofs.Common.{option_map, Result, Ok, Err, if◌then◌else◌, refl, sym, ap, ◌∙◌}
use Rattle.std.proofs.Common.{inl, subst, IfSome, IsOk, ◌++◌, ◌∷◌, [], length, append-nil, arith}
use Rattle.std.proofs.lemmas.Grind.{flat_map-append}
use Rattle.std.specs.List.{range_with_len}
use Rattle.std.specs.Prelude.{flat_map}
use Rattle.byte_formats.specs.Types.{HashFunction, Text}
use Rattle.disk_core.specs.declared.disk.Disk.{Ghosts}
use Rattle.journal_core.specs.declared.error.AppendError.TheVariants as append_error
use Rattle.tree_core.specs.declared.hashing.TreeHash.{Ghosts as Hashes}
use Rattle.issuance_log.specs.Folds.{LogView, log_of, more_entries}
use Rattle.issuance_log.specs.Refusals.{batch_refusal}
use Rattle.issuance_log.specs.Words.{LogAppends, log_broken, log_disk, log_end, log_records}
use Rattle.issuance_log.specs.Shown.{shown_with}
use Rattle.issuance_log.specs.Words.{view_of}
use Rattle.issuance_log.specs.declared.error.LogError.{LogError}
use Rattle.issuance_log.specs.declared.error.LogError.TheVariants.{Full, TooLarge, Append, Memory}
use Rattle.issuance_log.specs.declared.error.LogError.TheVariants.{TooMany}
use Rattle.issuance_log.specs.declared.log.Log.{Log as OpenLog}
use Rattle.authority_core.specs.Issues.{BatchKeepsToOrMemory, issued_batch, issued_items}
use Rattle.authority_core.specs.Issues.{issued_log_of_all, of_log}
use Rattle.authority_core.specs.declared.issuing.error.IssueError.{IssueError}
use Rattle.authority_core.specs.declared.issuing.error.IssueError.TheVariants.{Log}
use Rattle.authority_core.specs.Requests.{RequestParts}
use Rattle.mtc_command.specs.Answers.{refused, replied, said}
use Rattle.mtc_command.specs.Steps.{Outcome}
use Rattle.mtc_command.specs.Valid.{AddsValid}
use Rattle.mtc_command.specs.Works.{journaled_by}
use Rattle.mtc_command.specs.declared.answer.Said.TheVariants.{Done}
use Rattle.mtc_command.specs.declared.answer.Stopped.TheVariants.{Beyond}
use Rattle.mtc_authority.specs.IssueOutcome.{issue_ending, issued_text}
use Rattle.mtc_authority.specs.ListOutcomes.{MayRefuseEntries, issue_list_says, issued_lines}
use Rattle.mtc_authority.specs.ListOutcomes.{list_issued_by}
use Rattle.issuance_log.specs.Reasons.{log_fault_text}
use Rattle.mtc_authority.specs.Works.{HasWorkedOnLog, IsLog, IsReadyLog, StaysLog}
use Rattle.mtc_authority.proofs.Appends.{done_so, failed_so, out_of_memory_so, modelled_so}
use Rattle.mtc_authority.proofs.Appends.{valid_so}

-- ---- the lines

range_more : (first count : ℕ)
    → range_with_len first (suc count) ≡ range_with_len first count ++ (first + count) ∷ []
range_more first zero =
    let same : first ≡ first + 0 = omega arith in ap (λ (n : ℕ). n ∷ []) same
range_more first (suc count) =
    let same : first + 1 + count ≡ first + suc count = omega arith in
    ap (λ (ns : List ℕ). first ∷ ns) (range_more (first + 1) count)
    ∙ ap (λ (n : ℕ). first ∷ (range_with_len (first + 1) count ++ n ∷ [])) same

pub lines_none : (first : ℕ) → issued_lines first (first - first) ≡ []
lines_none first =
    let none : first - first ≡ 0 = omega arith in ap (λ (n : ℕ). issued_lines first n) none

pub lines_more : (first index : ℕ) → first ≤ index
    → issued_lines first (index + 1 - first)
    ≡ issued_lines first (index - first) ++ issued_text index
lines_more first index from =
    let count : index + 1 - first ≡ suc (index - first) = omega arith in
    let here : first + (index - first) ≡ index = omega arith in
    ap (λ (n : ℕ). issued_lines first n) count
    ∙ ap (λ (ns : List ℕ). flat_map issued_text ns) (range_more first (index - first))
    ∙ flat_map-append issued_text (range_with_len first (index - first))
    ((first + (index - first)) ∷ [])
    ∙ ap (λ (n : ℕ). issued_lines first (index - first) ++ (issued_text n ++ [])) here
    ∙ ap (λ (t : Text). issued_lines first (index - first) ++ t) (append-nil (issued_text index))

pub lines_end : (first count index : ℕ) (text : Text) → index ≡ first + count
    → text ≡ issued_lines first (index - first) → text ≡ issued_lines first count
lines_end first count index text end is =
    let all : index - first ≡ count = omega arith in
    is ∙ ap (λ (n : ℕ). issued_lines first n) all

-- ---- the work

-- the answer of a call that refuses
abbrev pub failed : IssueError → Result ℕ IssueError
failed why = Err why

module _ {H D : Type 0} {hashes : Hashes H} {g : Ghosts D} (h : HashFunction) (rs : List
    RequestParts)
    (name : Text) (old new : OpenLog H D D hashes g g) (ready : IsReadyLog old) where
  abbrev refusal_by : LogView → Bool → ℕ → Option LogError
  refusal_by v broken end = batch_refusal v broken end (issued_items h v rs)

  abbrev pub refusal : Option LogError
  refusal = refusal_by (view_of old) (log_broken old) (log_end old)

  abbrev outcome_by : LogView → List Text → Option LogError → Outcome
  outcome_by = list_issued_by h rs

  abbrev body : Text
  body = issued_batch h (view_of old) rs

  abbrev line : Text
  line = issued_lines (view_of old).size (length rs)

  -- what the call leaves, by its answer
  abbrev pub HasIssuedList : Result ℕ LogError → Type 0
  HasIssuedList result = LogAppends body (more_entries (length rs))
      (issued_log_of_all h (view_of old) rs) old new result

  pub list_issued_so : (index : ℕ) → refusal ≡ None → HasIssuedList (Ok index)
      → HasWorkedOnLog name (issue_list_says h rs) old new (replied (said Done line))
  list_issued_so index free run = done_so outcome_by refusal_by name old new ready body
      line (more_entries (length rs)) (issued_log_of_all h (view_of old) rs) (λ list. refl) free
      index run

  contents : (why : LogError) → refusal ≡ Some why → log_disk new ≡ log_disk old
      → HasWorkedOnLog name (issue_list_says h rs) old new
      (replied (refused Beyond None (log_fault_text why)))
  contents why is same = modelled_so outcome_by refusal_by name old new ready why
      (refused Beyond None (log_fault_text why)) (λ list. refl) (λ e. absurd cc) is same

  pub list_refused_so : (why : IssueError) → HasIssuedList (of_log (Err why))
      → BatchKeepsToOrMemory refusal (of_log (Err why))
      → HasWorkedOnLog name (issue_list_says h rs) old new (issue_ending name why)
  list_refused_so (Log Full) run is = contents Full is run.journal.leaves.disk
  list_refused_so (Log (TooMany count)) run is =
      contents (TooMany count) is run.journal.leaves.disk
  list_refused_so (Log TooLarge) run is = contents TooLarge is run.journal.leaves.disk
  list_refused_so (Log (Append append_error.Full)) run is =
      contents (Append append_error.Full) is run.journal.leaves.disk
  list_refused_so (Log (Append append_error.Broken)) run is =
      contents (Append append_error.Broken) is run.journal.leaves.disk
  list_refused_so (Log (Append append_error.Failed)) run is =
      failed_so outcome_by refusal_by name old new ready body line (more_entries (length rs))
      (issued_log_of_all h (view_of old) rs) (λ list. refl) is run
  list_refused_so (Log Memory) run is =
      out_of_memory_so outcome_by refusal_by name old new ready run.journal.leaves.disk
  list_refused_so (Log other) run is = absurd is

  -- a log that no append has broken doesn't refuse entries as a broken one
  first : (count : ℕ) (full many large over : Bool)
      → (if full then Some Full
      else (if many then Some (TooMany count)
      else (if large then Some TooLarge
      else option_map Append (if over then Some append_error.Full else None))))
      ≡ Some (Append append_error.Broken) → ⊥
  first count true many large over is = absurd cc
  first count false true large over is = absurd cc
  first count false false true over is = absurd cc
  first count false false false true is = absurd cc
  first count false false false false is = absurd cc

  never_broken : refusal ≢ Some (Append append_error.Broken)
  unfolding batch_refusal
  never_broken is =
      first _ _ _ _ _
      (sym (ap (λ broken. refusal_by (view_of old) broken (log_end old)) ready.sound) ∙ is)

  pub list_may_refuse : (why : IssueError) → BatchKeepsToOrMemory refusal (of_log (Err why))
      → MayRefuseEntries why
  list_may_refuse (Log Full) is = tt
  list_may_refuse (Log (TooMany count)) is = tt
  list_may_refuse (Log TooLarge) is = tt
  list_may_refuse (Log Memory) is = tt
  list_may_refuse (Log (Append append_error.Failed)) is = tt
  list_may_refuse (Log (Append append_error.Full)) is = tt
  list_may_refuse (Log (Append append_error.Broken)) is = absurd (never_broken is)
  list_may_refuse (Log other) is = absurd is

  -- the record makes a log with those before it
  abbrev pub IsSoundAfter : List Text → Type 0
  IsSoundAfter list = log_of h (list ++ body ∷ [])
      ≡ Ok (issued_log_of_all h (view_of old) rs (shown_with (view_of old) list))

  adds_valid : (list : List Text) (why : Option LogError) → (why ≡ None → IsSoundAfter list)
      → AddsValid (IsLog h) (journaled_by (outcome_by (view_of old) list why))
  adds_valid list None sound = subst IsOk (sym (sound refl)) refl
  adds_valid list (Some why) sound = tt

  pub list_issued_valid : (refusal ≡ None → IfSome (log_records old) IsSoundAfter)
      → StaysLog h (issue_list_says h rs) old new
  list_issued_valid sound = valid_so outcome_by refusal_by name old new ready (IsLog h)
      IsSoundAfter adds_valid sound

  pub list_refused_valid : (why : IssueError) → HasIssuedList (of_log (Err why))
      → (failed why ≢ failed (Log Memory) → refusal ≡ None
      → IfSome (log_records old) IsSoundAfter)
      → StaysLog h (issue_list_says h rs) old new
  list_refused_valid (Log Memory) run sound = inl (inl run.journal.leaves.disk)
  list_refused_valid (Log other) run sound = list_issued_valid (sound (λ is. absurd cc))
