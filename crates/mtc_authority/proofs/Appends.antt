-- What comes of appending a record to a log that was opened just now.
use Rattle.std.proofs.Common.{◌≡◌, ◌≢◌, ℕ, Bool, false, List, Option, None, Some, IfSome, Ok, Err}
use Rattle.std.proofs.Common.{inl, inr, refl, sym, subst, ap, ◌∙◌, option_map}
use Rattle.std.proofs.lemmas.Option.{IfSome_then}
use Rattle.byte_formats.specs.Types.{Text}
use Rattle.disk_core.specs.declared.disk.Disk.{Ghosts}
use Rattle.journal_core.specs.Format.{end_offset}
use Rattle.journal_core.specs.declared.error.AppendError.TheVariants as append_error
use Rattle.tree_core.specs.declared.hashing.TreeHash.{Ghosts as Hashes}
use Rattle.issuance_log.specs.Folds.{LogState, LogView, view_in}
use Rattle.issuance_log.specs.Shown.{shown_with}
use Rattle.issuance_log.specs.Words.{LogAppends, both_records, log_broken, log_disk, log_end}
use Rattle.issuance_log.specs.Words.{log_records, log_tiles_disk, view_of}
use Rattle.issuance_log.specs.declared.error.LogError.{LogError}
use Rattle.issuance_log.specs.declared.error.LogError.TheVariants.{Append}
use Rattle.issuance_log.specs.declared.log.Log.{Log as OpenLog}
use Rattle.mtc_command.specs.Answers.{Ending, Reply, no_memory, replied, room_failed, said}
use Rattle.mtc_command.specs.Answers.{status_of}
use Rattle.mtc_command.specs.Steps.{Outcome, answers_on, appends}
use Rattle.mtc_command.specs.Valid.{AddsValid, WorksValidly}
use Rattle.mtc_command.specs.Works.{HasWorked, HasWorkedTiled, journaled_by}
use Rattle.mtc_command.specs.declared.answer.Said.TheVariants.{Done}
use Rattle.mtc_command.proofs.Tiled.{tiled_less, tiled_of}
use Rattle.mtc_command.proofs.Works.{appended_on, both_some, failed_on, read_on, says_so}
use Rattle.mtc_command.proofs.Works.{out_of_memory_on}
use Rattle.mtc_authority.specs.Works.{IsReadyLog}

-- of what is made of a thing, and of the thing
pub mapped_some : {X Y : Type 0} (f : X → Y) (o : Option X) (P : Y → Type 0)
    → IfSome (option_map f o) P → IfSome o (λ x. P (f x))
mapped_some f None P is = tt
mapped_some f (Some x) P is = is

-- The outcome by what a log shows and its records, by what the log refuses, which it does by what
-- it shows and by its journal.
module _ {H D : Type 0} {hashes : Hashes H} {g : Ghosts D}
    (outcome_by : LogView → List Text → Option LogError → Outcome)
    (refusal_by : LogView → Bool → ℕ → Option LogError)
    (name : Text) (old new : OpenLog H D D hashes g g) (ready : IsReadyLog old) where
  abbrev refusal : Option LogError
  refusal = refusal_by (view_of old) (log_broken old) (log_end old)

  abbrev view_at : List Text → LogView
  view_at list = view_in (shown_with (view_of old) list)

  abbrev says_by : LogView → List Text → Outcome
  says_by v list = outcome_by v list (refusal_by v false (end_offset list))

  abbrev says : List Text → Outcome
  says list = says_by (view_at list) list

  abbrev Works : Ending → Type 0
  Works = HasWorkedTiled g name (both_records old) says (log_disk old) (log_disk new)
      (log_tiles_disk old) (log_tiles_disk new)

  shown : IfSome (log_records old) (λ list. view_at list ≡ view_of old)
  shown = mapped_some (shown_with (view_of old)) (log_records old)
      (λ s. view_in s ≡ view_of old) ready.view

  same_says : (why : Option LogError) → refusal ≡ why → IfSome (log_records old) (λ list.
      outcome_by (view_of old) list why ≡ says list)
  same_says why is = both_some (log_records old) ready.end shown (λ list end view.
      ap (outcome_by (view_of old) list) (sym is
      ∙ ap (λ broken. refusal_by (view_of old) broken (log_end old)) ready.sound
      ∙ ap (refusal_by (view_of old) false) end)
      ∙ ap (λ v. says_by v list) (sym view))

  -- where it refuses this, the work with that outcome is the work
  so : (why : Option LogError) (wanted : List Text → Outcome) (ending : Ending) → refusal ≡ why
      → ((list : List Text) → wanted list ≡ outcome_by (view_of old) list why)
      → HasWorked g name (log_records old) wanted (log_disk old) (log_disk new) ending
      → Works ending
  so why wanted ending is means work =
      let worked = says_so g name (log_records old) (log_disk old) (log_disk new) wanted says ending
      (IfSome_then (log_records old) (same_says why is) (λ list same. means list ∙ same)) work in
      tiled_less g name (log_records old) (log_disk old) (log_disk new) (log_tiles_disk old)
      (log_tiles_disk new) (g.contents (log_tiles_disk old)) says ending
      (tiled_of g name (log_records old) (log_disk old) (log_disk new) (log_tiles_disk old)
      (log_tiles_disk new) says ending worked)

  module _ (body text : Text) (seen : LogView → LogView) (next : LogState → LogState)
      (appending : (list : List Text)
      → appends list body text ≡ outcome_by (view_of old) list None)
      (free : refusal ≡ None) where
    -- the record was appended, and a text made before
    pub done_so : {X : Type 0} (answer : X) → LogAppends body seen next old new (Ok answer)
        → Works (replied (said Done text))
    done_so answer run = so None (λ list. appends list body text) _ free appending
        (appended_on g name (log_records old) (log_disk old) (log_disk new) body text
        run.journal.count (run.journal.any_time ready.sound) run.journal.kept)

    -- the device failed in the append
    pub failed_so : {X : Type 0}
        → LogAppends {X = X} body seen next old new (Err (Append append_error.Failed))
        → Works (room_failed name)
    failed_so run = so None (λ list. appends list body text) _ free appending
        (failed_on g name (log_records old) (log_disk old) (log_disk new) body text
        run.journal.leaves.cause run.journal.count (run.journal.any_time ready.sound)
        (run.journal.afterwards ready.sound))

  -- the log refuses the record
  pub modelled_so : (why : LogError) (reply : Reply)
      → ((list : List Text) → answers_on list reply ≡ outcome_by (view_of old) list (Some why))
      → status_of reply ≢ 1 → refusal ≡ Some why → log_disk new ≡ log_disk old
      → Works (replied reply)
  modelled_so why reply telling code is same = so (Some why) (λ list. answers_on list reply) _ is
      telling
      (read_on g name (log_records old) (log_disk old) (log_disk new) reply _ (inl same)
      (refl, code))

  -- memory was refused
  pub out_of_memory_so : log_disk new ≡ log_disk old → Works no_memory
  out_of_memory_so same =
      tiled_less g name (log_records old) (log_disk old) (log_disk new) (log_tiles_disk old)
      (log_tiles_disk new) (g.contents (log_tiles_disk old)) says no_memory
      (tiled_of g name (log_records old) (log_disk old) (log_disk new) (log_tiles_disk old)
      (log_tiles_disk new) says no_memory
      (out_of_memory_on g name (log_records old) (log_disk old) (log_disk new) says (inl same)))

  each_valid : (Valid Sound : List Text → Type 0)
      → ((list : List Text) (why : Option LogError) → (why ≡ None → Sound list)
      → AddsValid Valid (journaled_by (outcome_by (view_of old) list why)))
      → (records : Option (List Text))
      → IfSome records (λ list. log_end old ≡ end_offset list)
      → IfSome records (λ list. view_at list ≡ view_of old)
      → (refusal ≡ None → IfSome records Sound)
      → IfSome records (λ list. AddsValid Valid (journaled_by (says list)))
  each_valid Valid Sound keeps None end view sound = tt
  each_valid Valid Sound keeps (Some list) end view sound =
      subst (λ (v : LogView). AddsValid Valid (journaled_by (says_by v list))) (sym view)
      (keeps list (refusal_by (view_of old) false (end_offset list))
      (λ free. sound (ap (λ broken. refusal_by (view_of old) broken (log_end old)) ready.sound
      ∙ ap (refusal_by (view_of old) false) end ∙ free)))

  -- a record that the log doesn't refuse follows these rules
  pub valid_so : (Valid Sound : List Text → Type 0)
      → ((list : List Text) (why : Option LogError) → (why ≡ None → Sound list)
      → AddsValid Valid (journaled_by (outcome_by (view_of old) list why)))
      → (refusal ≡ None → IfSome (log_records old) Sound)
      → WorksValidly g Valid (log_records old) says (log_disk old) (log_disk new)
  valid_so Valid Sound keeps sound =
      inr (each_valid Valid Sound keeps (log_records old) ready.end shown sound)
