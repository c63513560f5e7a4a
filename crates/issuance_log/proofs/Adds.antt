-- What an item, a landmark, tiles or a switch more make of a log that does not refuse them.
use Rattle.std.proofs.Common.{◌≡◌, ◌≢◌, ℕ, ◌+◌, ◌<◌, ◌≤◌, ◌==◌, nat_lt, not, ◌∙◌, arith}
use Rattle.std.proofs.Common.{List, if◌then◌else◌, Bool, true, false, length, Option, Some, None}
use Rattle.std.proofs.Common.{refl}
use Rattle.std.proofs.Common.{sym}
use Rattle.std.proofs.lemmas.Bool.{leb-false, ltb-true, ltb-false, not-false}
use Rattle.std.proofs.lemmas.Bool.Decides.{nat_tests}
use Rattle.std.proofs.lemmas.Option.{IfSome_then}
use Rattle.byte_formats.specs.Types.{Text}
use Rattle.disk_core.specs.declared.disk.Disk.{Ghosts}
use Rattle.journal_core.specs.declared.error.AppendError.{AppendError}
use Rattle.journal_core.proofs.Folds.{state_next}
use Rattle.log_entry.specs.Matching.{has_form, matches}
use Rattle.tree_core.specs.declared.hashing.TreeHash.{Ghosts as Hashes}
use Rattle.issuance_log.specs.Batches.{AreOfForm}
use Rattle.issuance_log.specs.Changes.{MakesOfLog}
use Rattle.issuance_log.specs.Counted.{log_keeps}
use Rattle.issuance_log.specs.Folds.{LogState, LogView, log_fold, log_form, with_item, with_mark}
use Rattle.issuance_log.specs.Folds.{with_items, with_switch, with_tiles}
use Rattle.issuance_log.specs.Marks.{last_mark}
use Rattle.issuance_log.specs.Records.{batch_record, entry_record, landmark_record, switch_record}
use Rattle.issuance_log.specs.Records.{tiles_record}
use Rattle.issuance_log.specs.Refusals.{add_refusal, batch_refusal, full_size, mark_refusal}
use Rattle.issuance_log.specs.Refusals.{switch_refusal}
use Rattle.issuance_log.specs.Refusals.{tile_refusal, unless_switched}
use Rattle.issuance_log.specs.Settings.{most_item}
use Rattle.issuance_log.specs.Shown.{shown_with}
use Rattle.issuance_log.specs.Sound.{HasSoundNumbers}
use Rattle.issuance_log.specs.declared.error.LogError.{LogError}
use Rattle.issuance_log.specs.declared.error.LogError.TheVariants.{AlreadySwitched}
use Rattle.issuance_log.specs.Words.{LogWouldTake, log_broken, log_end, log_records, view_of}
use Rattle.issuance_log.specs.declared.log.Log.{Log}
use Rattle.issuance_log.proofs.Changes.{batch_makes, item_makes, mark_makes, switch_makes}
use Rattle.issuance_log.proofs.Changes.{tiles_make}
use Rattle.issuance_log.proofs.Fitting.{can_be, unrefused}
use Rattle.issuance_log.proofs.Growth.{last_in, size_fits}
use Rattle.issuance_log.proofs.Shown.{shown_view}
use Rattle.issuance_log.proofs.TakenItems.{taken_together}

-- a log that isn't full has capacity
pub capacity_of : (size limit : ℕ) → not (nat_lt size limit) ≡ false → size < limit
capacity_of size limit is = ltb-true size limit (not-false (nat_lt size limit) is)

-- a landmark that is above the last one
pub above_last : (v : LogView) (last size : ℕ) → HasSoundNumbers v → last ≡ last_mark v.marks
    → size ≡ v.size → last ≢ size → last_mark v.marks < v.size
above_last v last size sound one two other =
    apart (last_mark v.marks) v.size (last_in v sound) (λ same. other (one ∙ same ∙ sym two))
  where
    apart : (a b : ℕ) → a ≤ b → a ≢ b → a < b
    apart a b few differ = grind arith

-- a refusal that is none of its tests
passed : (b : Bool) (e : LogError) (o : Option LogError) → (if b then Some e else o) ≡ None
    → (b ≡ false) × (o ≡ None)
passed true e o is = let wrong : Some e ≡ None = is in cc
passed false e o is = (refl, is)

-- a log of which nothing is refused was not switched
not_switched : (switched : Option ℕ) (refusal : Option AppendError)
    → unless_switched switched refusal ≡ None → switched ≡ None
not_switched None refusal is = refl
not_switched (Some index) refusal is =
    let wrong : Some (AlreadySwitched index) ≡ None = is in absurd cc

below : (a b : ℕ) → a ≤ b → (a == b) ≡ false → a < b
below a b few other = grind (arith, nat_tests)

module _ {H D T : Type 0} {hashes : Hashes H} {g : Ghosts D} {k : Ghosts T}
    (log : Log H D T hashes g k) (sound : HasSoundNumbers (view_of log)) where
  -- after its records a record makes what it makes of any log that shows this
  makes_after : (body : Text) (next : LogState → LogState)
      → MakesOfLog hashes.hash (view_of log) body next → LogWouldTake body next log
  makes_after body next makes = IfSome_then (log_records log) (log_keeps log) (λ list is.
      state_next (log_fold hashes.hash) list (shown_with (view_of log) list) body
      (next (shown_with (view_of log) list)) is.made
      (makes (shown_with (view_of log) list) (shown_view (view_of log) list is.all)))

  pub added_unrefused : (entry key : Text) → matches hashes.hash entry key ≡ true
      → has_form (log_form (view_of log)) entry ≡ true
      → add_refusal (view_of log) (log_broken log) (log_end log) entry key ≡ None
      → LogWouldTake (entry_record entry key) (with_item entry key) log
  unfolding add_refusal
  added_unrefused entry key belongs form none =
      let first = passed _ _ _ none in
      let second = passed _ _ _ first.1 in
      makes_after (entry_record entry key) (with_item entry key)
      (item_makes hashes.hash (view_of log) entry key (below _ _ sound.few first.0)
      (ltb-false most_item (length entry + length key) second.0) form belongs)

  pub batch_unrefused : (items : List (Text × Text)) → 1 ≤ length items
      → AreOfForm hashes.hash (log_form (view_of log)) items
      → batch_refusal (view_of log) (log_broken log) (log_end log) items ≡ None
      → LogWouldTake (batch_record items) (with_items items) log
  batch_unrefused items some each none =
      let pass = unrefused (view_of log) (log_broken log) (log_end log) items none in
      makes_after (batch_record items) (with_items items)
      (batch_makes hashes.hash (view_of log) items (can_be items some pass.fit pass.large) pass.fit
      (taken_together hashes.hash (view_of log) items sound pass.within each))

  pub marked_unrefused : mark_refusal (view_of log) (log_broken log) (log_end log) ≡ None
      → LogWouldTake (landmark_record (view_of log).size) with_mark log
  unfolding mark_refusal
  marked_unrefused none =
      let first = passed _ _ _ none in
      makes_after (landmark_record (view_of log).size) with_mark
      (mark_makes hashes.hash (view_of log) sound (below _ _ (last_in (view_of log) sound) first.0))

  pub tiled_unrefused : tile_refusal (view_of log) (log_broken log) (log_end log) ≡ None
      → LogWouldTake (tiles_record (full_size (view_of log))) (with_tiles (full_size (view_of log)))
      log
  unfolding tile_refusal
  tiled_unrefused none =
      let first = passed _ _ _ none in
      let size = full_size (view_of log) in
      let fits = size_fits (view_of log) sound in
      makes_after (tiles_record size) (with_tiles size)
      (tiles_make hashes.hash (view_of log) size (omega arith) (omega arith)
      (leb-false size (view_of log).tiled first.0) (omega arith))

  pub switched_unrefused : switch_refusal (view_of log) (log_broken log) (log_end log) ≡ None
      → LogWouldTake (switch_record (view_of log).size) with_switch log
  unfolding switch_refusal
  switched_unrefused none =
      makes_after (switch_record (view_of log).size) with_switch
      (switch_makes hashes.hash (view_of log) sound (not_switched (view_of log).switched _ none))
