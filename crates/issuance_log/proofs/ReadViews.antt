-- A file that is read by what a log shows, and by what it is.
use Rattle.std.proofs.Common.{◌≡◌, ℕ, Bool, true, false, List, [], ◌∷◌, take, Option, Result, Ok}
use Rattle.std.proofs.Common.{Err, refl, ap, sym, subst, ◌∙◌}
use Rattle.std.specs.Prelude.{if◌then◌else◌}
use Rattle.std.specs.Str.{bytes_eq}
use Rattle.byte_formats.specs.Types.{HashFunction, Text}
use Rattle.byte_formats.specs.Readings.{◌>>=◌, lifted}
use Rattle.journal_core.specs.Folds.{AreRefused, Found, closing, read_by, state_after, tested}
use Rattle.journal_core.specs.Folds.{walked}
use Rattle.journal_core.specs.Format.{header}
use Rattle.journal_core.specs.Walk.{FileEnd, FileWalk, at_bad_length, at_commit_byte, at_cut}
use Rattle.journal_core.specs.Walk.{walk_of}
use Rattle.journal_core.specs.declared.error.OpenError.TheVariants.{NotJournal}
use Rattle.journal_core.proofs.Modelled.{if_some}
use Rattle.state_journal.specs.declared.error.StateOpenError.{StateOpenError}
use Rattle.state_journal.specs.declared.error.StateOpenError.TheVariants as state
use Rattle.issuance_log.specs.Folds.{LogState, LogView, log_fold, log_of, view_in}
use Rattle.issuance_log.specs.Shown.{shown_with}
use Rattle.issuance_log.specs.declared.error.LogOpenError.{LogOpenError}
use Rattle.issuance_log.specs.declared.error.LogOpenError.TheVariants.{BadRecord, Open}
use Rattle.issuance_log.proofs.Views.{shows, state_shows, view_fold}

-- why a log isn't read
abbrev pub log_why : StateOpenError → LogOpenError
log_why (state.BadRecord k) = BadRecord k
log_why (state.Open why) = Open why

-- both are read, or are refused for the same reason
abbrev FailAlike : {X Y : Type 0} → Result X StateOpenError → Result Y LogOpenError → Type 0
FailAlike (Ok x) (Ok y) = Unit {0}
FailAlike (Ok x) (Err e) = ⊥
FailAlike (Err why) (Ok y) = ⊥
FailAlike (Err why) (Err e) = e ≡ log_why why

module _ (h : HashFunction) where
  -- the state after the records, and then how the file ends
  alike_state : (end : FileEnd) (t : Result LogState ℕ)
      → FailAlike (lifted state.BadRecord (shows t) >>= λ v. closing (view_fold h) end (Ok v))
      (lifted BadRecord t >>= λ s. closing (log_fold h) end (Ok s))
  alike_state at_commit_byte (Ok s) = tt
  alike_state (at_bad_length place) (Ok s) = refl
  alike_state (at_cut place) (Ok s) = refl
  alike_state end (Err k) = refl

  alike_tested : (list : List Text) (end : FileEnd)
      → FailAlike (tested (view_fold h) list end) (tested (log_fold h) list end)
  alike_tested [] at_commit_byte = refl
  alike_tested [] (at_bad_length place) = refl
  alike_tested [] (at_cut place) = refl
  alike_tested (first ∷ bodies) end =
      subst (λ r. FailAlike (lifted state.BadRecord r >>= λ v. closing (view_fold h) end (Ok v))
      (tested (log_fold h) (first ∷ bodies) end)) (sym (state_shows h (first ∷ bodies)))
      (alike_state end (state_after (log_fold h) (first ∷ bodies)))

  alike_walked : (walk : FileWalk)
      → FailAlike (walked (view_fold h) walk) (walked (log_fold h) walk)
  alike_walked walk = each (tested (view_fold h) walk.records walk.end)
      (tested (log_fold h) walk.records walk.end) (alike_tested walk.records walk.end)
    where
      each : (r : Result LogView StateOpenError) (t : Result LogState LogOpenError) → FailAlike r t
          → FailAlike {X = Found LogView} {Y = Found LogState}
          (r >>= λ v. Ok (record { records = walk.records; state = v }))
          (t >>= λ s. Ok (record { records = walk.records; state = s }))
      each (Ok v) (Ok s) is = tt
      each (Ok v) (Err e) is = absurd is
      each (Err why) (Ok s) is = absurd is
      each (Err why) (Err e) is = is

  alike_read : (bytes : Text) → FailAlike (read_by (view_fold h) bytes) (read_by (log_fold h) bytes)
  unfolding read_by
  alike_read bytes = by_test (bytes_eq (take 16 bytes) header)
    where
      by_test : (b : Bool) → FailAlike
          (if b then walked (view_fold h) (walk_of bytes) else Err (state.Open NotJournal))
          (if b then walked (log_fold h) (walk_of bytes) else Err (Open NotJournal))
      by_test true = alike_walked (walk_of bytes)
      by_test false = refl

  -- A file that is refused by what it shows is refused as a log.
  pub log_refused : (contents : Option Text) (why : StateOpenError)
      → AreRefused (view_fold h) contents why → AreRefused (log_fold h) contents (log_why why)
  log_refused contents why refused =
      if_some (λ bytes. read_by (view_fold h) bytes ≡ Err why)
      (λ bytes. read_by (log_fold h) bytes ≡ Err (log_why why)) contents
      (λ bytes is. at (read_by (log_fold h) bytes)
      (subst (λ r. FailAlike r (read_by (log_fold h) bytes)) is (alike_read bytes))) refused
    where
      at : (t : Result (Found LogState) LogOpenError) → FailAlike {X = Found LogView} (Err why) t
          → t ≡ Err (log_why why)
      at (Ok found) same = absurd same
      at (Err e) same = ap Err same

  -- Records that make a log make what it shows.
  pub view_made : (v : LogView) (list : List Text) → log_of h list ≡ Ok (shown_with v list)
      → view_in (shown_with v list) ≡ v → state_after (view_fold h) list ≡ Ok v
  view_made v list made view = state_shows h list ∙ ap shows made ∙ ap Ok view
