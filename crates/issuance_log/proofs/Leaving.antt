-- What a call that appends a record leaves of a log.
use Rattle.std.proofs.Common.{◌≡◌, true, false, List, Option, Some, None, option_map, Ok, Err}
use Rattle.std.proofs.Common.{refl, ap, subst, sym, ◌∙◌}
use Rattle.std.specs.Prelude.{map, option_and_then, is_some, Result}
use Rattle.std.specs.Result.{IsErrAnd}
use Rattle.byte_formats.specs.Types.{Text}
use Rattle.byte_formats.proofs.Values.{err_is}
use Rattle.disk_core.specs.declared.disk.Disk.{Ghosts}
use Rattle.journal_core.specs.Ends.{durable_records}
use Rattle.journal_core.specs.Owners.{Owner, OwnerAppends, owner_over}
use Rattle.journal_core.specs.declared.error.AppendError.{AppendError}
use Rattle.journal_core.specs.declared.journal.Journal.{Journal}
use Rattle.state_journal.proofs.Owners.{owner_grows, owner_refused, owner_stays}
use Rattle.tree_core.specs.Tree.{leaf_hash}
use Rattle.tree_core.specs.declared.hashing.TreeHash.{Ghosts as Hashes}
use Rattle.issuance_log.specs.Changes.{IsTakenAs}
use Rattle.issuance_log.specs.Counted.{log_keeps}
use Rattle.issuance_log.specs.Folds.{LogState, LogView}
use Rattle.issuance_log.specs.Items.{items_leaves, items_offsets}
use Rattle.issuance_log.specs.Shown.{shown_with}
use Rattle.issuance_log.specs.Words.{LogAppends, LogModelMoves, log_disk, log_owner, log_records}
use Rattle.issuance_log.specs.Words.{log_tiles_disk, modelled_by_both, modelled_state}
use Rattle.issuance_log.specs.Words.{of_log_journal, view_of}
use Rattle.issuance_log.specs.declared.error.LogError.{LogError}
use Rattle.issuance_log.specs.declared.error.LogError.TheVariants.{Append}
use Rattle.issuance_log.specs.declared.log.Log.{Log}
use Rattle.issuance_log.proofs.Telling.{grown_leaves, grown_modelled, leaves_by, leaves_same}

-- ---- where the journal has no call

-- the records, if the model knows the bytes of the disk of the tiles
both_same : (records : Option (List Text)) (tiles later : Option Text)
    → is_some later ≡ is_some tiles
    → option_and_then (λ (t : Text). records) later ≡ option_and_then (λ (t : Text). records) tiles
both_same records None None same = refl
both_same records None (Some t) same = let wrong : true ≡ false = same in absurd cc
both_same records (Some t) None same = let wrong : false ≡ true = same in absurd cc
both_same records (Some t) (Some u) same = refl

module _ {H D T : Type 0} {hashes : Hashes H} {g : Ghosts D} {k : Ghosts T}
    (old ready : Log H D T hashes g k) (journal : ready.journal ≡ old.journal)
    (view : view_of ready ≡ view_of old)
    (tiles : is_some (k.contents (log_tiles_disk ready))
    ≡ is_some (k.contents (log_tiles_disk old))) where
  owner_same : log_owner ready ≡ log_owner old
  owner_same =
      ap (λ (j : Journal D g). owner_over j (durable_records j) (view_of ready)) journal
      ∙ ap (owner_over old.journal (log_records old)) view

  modelled_same : modelled_state ready ≡ modelled_state old
  modelled_same =
      ap (λ (j : Journal D g). option_map (shown_with (view_of ready)) (durable_records j)) journal
      ∙ ap (λ (v : LogView). option_map (shown_with v) (log_records old)) view

  by_both_same : modelled_by_both ready ≡ modelled_by_both old
  by_both_same =
      ap (option_map (shown_with (view_of ready)))
      (both_same (log_records ready) (k.contents (log_tiles_disk old))
      (k.contents (log_tiles_disk ready)) tiles)
      ∙ ap (λ (j : Journal D g). option_map (shown_with (view_of ready))
      (option_and_then (λ (t : Text). durable_records j) (k.contents (log_tiles_disk old)))) journal
      ∙ ap (λ (v : LogView). option_map (shown_with v)
      (option_and_then (λ (t : Text). log_records old) (k.contents (log_tiles_disk old)))) view

  -- a refusal before the append
  pub appends_not : {X : Type 0} (body : Text) (seen : LogView → LogView)
      (next : LogState → LogState) (result : Result X LogError) (why : LogError)
      → IsErrAnd result (λ e. e ≡ why) → of_log_journal why ≡ None
      → ((c : Text) → g.left_since (log_disk old) (g.clock_at (log_disk old)) c
      → g.may_leave (log_disk old) c) → LogAppends {X = X} body seen next old ready result
  appends_not {X = X} body seen next result why is none only_now =
      subst (LogAppends {X = X} body seen next old ready) (err_is result why is) (record {
        journal = subst (λ (o : Owner D LogView). OwnerAppends {X = X} g of_log_journal body
            (seen (view_of old)) (log_owner old) o (Err why)) (sym owner_same)
            (owner_stays g of_log_journal body (seen (view_of old)) old.journal (view_of old) why
            none only_now);
        is_modelled = record {
          contents = modelled_same;
          leaves = ap (option_map (λ (s : LogState). map (leaf_hash hashes.hash) s.entries))
              by_both_same;
        };
      })

  module _ (new : Log H D T hashes g k) where
    moves_same : {X : Type 0} (next : LogState → LogState) (result : Result X LogError)
        → LogModelMoves next ready new result → LogModelMoves next old new result
    moves_same next (Ok answer) is = record {
      contents = is.contents ∙ ap (option_map next) modelled_same;
      leaves = is.leaves
          ∙ ap (option_map (λ (s : LogState). map (leaf_hash hashes.hash) (next s).entries))
          by_both_same;
    }
    moves_same next (Err why) is = record {
      contents = is.contents ∙ modelled_same;
      leaves = is.leaves
          ∙ ap (option_map (λ (s : LogState). map (leaf_hash hashes.hash) s.entries)) by_both_same;
    }

    -- What the append of a record makes of a log that was made ready, it makes of the log before.
    pub appends_from : {X : Type 0} (text body : Text) (seen : LogView → LogView)
        (next : LogState → LogState) (result : Result X LogError) → text ≡ body
        → IsTakenAs hashes.hash (view_of old) body seen next
        → (IsTakenAs hashes.hash (view_of ready) text seen next
        → LogAppends {X = X} text seen next ready new result)
        → LogAppends {X = X} body seen next old new result
    appends_from {X = X} text body seen next result encoded taken each =
        let is = each (subst (λ (v : LogView). IsTakenAs hashes.hash v text seen next) (sym view)
        (subst (λ (b : Text). IsTakenAs hashes.hash (view_of old) b seen next) (sym encoded)
        taken)) in
        subst (λ (b : Text). LogAppends {X = X} b seen next old new result) encoded (record {
          journal = subst (λ (o : Owner D LogView). OwnerAppends g of_log_journal text
              (seen o.state) o (log_owner new) result) owner_same is.journal;
          is_modelled = moves_same next result is.is_modelled;
        })

-- ---- where a record is appended

module _ {H D T : Type 0} {hashes : Hashes H} {g : Ghosts D} {k : Ghosts T}
    (old new : Log H D T hashes g k)
    (tiles : is_some (k.contents (log_tiles_disk new))
    ≡ is_some (k.contents (log_tiles_disk old))) {X : Type 0} (body : Text)
    (seen : LogView → LogView) (next : LogState → LogState) where
  -- the append was refused, or failed
  pub appends_err : (result : Result X LogError) (why : AppendError)
      → IsErrAnd result (λ e. e ≡ Append why)
      → OwnerAppends {X = Unit {0}} {E = AppendError} g (λ why. Some why) body
      (seen (view_of old)) (log_owner old) (log_owner new) (Err why)
      → log_records new ≡ log_records old → view_of new ≡ view_of old
      → LogAppends {X = X} body seen next old new result
  appends_err result why refused did records view =
      let same : modelled_state new ≡ modelled_state old =
      ap (λ (u : LogView). option_map (shown_with u) (log_records new)) view
      ∙ ap (option_map (shown_with (view_of old))) records in
      subst (LogAppends {X = X} body seen next old new) (err_is result (Append why) refused)
      (record {
        journal = owner_refused g of_log_journal body (seen (view_of old)) (log_owner old)
            (log_owner new) why (Append why) refl did;
        is_modelled = record {
          contents = same;
          leaves = leaves_same hashes.hash (view_of old) (view_of new)
              (k.contents (log_tiles_disk old)) (k.contents (log_tiles_disk new))
              (log_records old) (log_records new) tiles same;
        };
      })

  -- or was not
  pub appends_ok : (answer : X)
      → OwnerAppends {X = Unit {0}} {E = AppendError} g (λ why. Some why) body
      (seen (view_of old)) (log_owner old) (log_owner new) (Ok tt)
      → IsTakenAs hashes.hash (view_of old) body seen next
      → LogAppends {X = X} body seen next old new (Ok answer)
  appends_ok answer did taken =
      let h = hashes.hash in
      let v = view_of old in
      let offsets = items_offsets old.machine.items in
      let leaves = items_leaves old.machine.items in
      let view = did.leaves.state in
      record {
        journal = owner_grows g of_log_journal body (seen v) (log_owner old) (log_owner new) answer
            did;
        is_modelled = record {
          contents = ap (λ (u : LogView). option_map (shown_with u) (log_records new)) view
              ∙ grown_modelled h v offsets leaves (log_records old) (log_records new) body seen
              next did.leaves.records taken (log_keeps old);
          leaves = ap (λ (u : LogView). leaves_by h u (k.contents (log_tiles_disk new))
              (log_records new)) view
              ∙ grown_leaves h v offsets leaves (log_records old) (log_records new) body seen next
              did.leaves.records taken (log_keeps old) (k.contents (log_tiles_disk old))
              (k.contents (log_tiles_disk new)) tiles;
        };
      }
