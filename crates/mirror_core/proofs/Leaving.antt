-- What a call that appends a record leaves of a mirror.
use Rattle.std.proofs.Common.{◌≡◌, true, false, List, Option, Some, None, option_map, Ok, Err}
use Rattle.std.proofs.Common.{refl, ap, subst, sym, ◌∙◌, ◌+◌, ◌<◌, length}
use Rattle.std.specs.Prelude.{map, option_and_then, is_some, Result}
use Rattle.std.specs.Result.{IsErrAnd}
use Rattle.byte_formats.specs.Types.{Text}
use Rattle.byte_formats.proofs.Values.{err_is}
use Rattle.disk_core.specs.declared.disk.Disk.{Ghosts}
use Rattle.journal_core.specs.Ends.{durable_records}
use Rattle.journal_core.specs.Owners.{Owner, OwnerAppends, owner_over}
use Rattle.journal_core.specs.declared.error.AppendError.{AppendError}
use Rattle.journal_core.specs.declared.journal.Journal.{Journal}
use Rattle.disk_core.specs.Times.{LeavesOnly}
use Rattle.journal_core.specs.Appends.{JournalAppends}
use Rattle.journal_core.specs.Format.{RepresentsEither, most_bytes}
use Rattle.journal_core.specs.Owners.{OwnerIsRefused, OwnerLeaves}
use Rattle.journal_core.specs.Words.{disk_of, end_of}
use Rattle.journal_core.specs.declared.error.AppendError.TheVariants.{Broken, Failed, Full}
use Rattle.journal_core.proofs.Owners.{refused_by}
use Rattle.state_journal.proofs.Kept.{of_sound}
use Rattle.state_journal.proofs.Owners.{owner_grows, owner_refused, owner_stays}
use Rattle.mirror_core.specs.Refusals.{KeepsToMirrorJournal, MirrorCountsAll}
use Rattle.tree_core.specs.Tree.{leaf_hash}
use Rattle.tree_core.specs.declared.hashing.TreeHash.{Ghosts as Hashes}
use Rattle.mirror_core.specs.declared.error.MirrorError.TheVariants.{Append}
use Rattle.mirror_core.proofs.Telling.{grown_leaves, grown_modelled, leaves_by}
use Rattle.mirror_core.proofs.Telling.{leaves_same}
use Rattle.mirror_core.specs.Counted.{mirror_keeps}
use Rattle.mirror_core.specs.Folds.{MirrorState, MirrorView, entries_in_mirror}
use Rattle.mirror_core.specs.Folds.{mirror_with}
use Rattle.mirror_core.specs.Kept.{kept_leaves, kept_places}
use Rattle.mirror_core.specs.Words.{IsMirroredAs, MirrorAppends, MirrorModelMoves}
use Rattle.mirror_core.specs.Words.{mirror_by_both, mirror_disk, mirror_owner}
use Rattle.mirror_core.specs.Words.{mirror_records, mirror_tiles_disk, mirror_view}
use Rattle.mirror_core.specs.Words.{modelled_mirror, of_mirror_journal}
use Rattle.mirror_core.specs.declared.error.MirrorError.{MirrorError}
use Rattle.mirror_core.specs.declared.mirror.Mirror.{Mirror}

-- ---- where the journal has no call

-- the records, if the model knows the bytes of the disk of the tiles
both_same : (records : Option (List Text)) (tiles later : Option Text)
    → is_some later ≡ is_some tiles
    → option_and_then (λ (t : Text). records) later ≡ option_and_then (λ (t : Text). records) tiles
both_same records None None same = refl
both_same records None (Some t) same = let wrong : true ≡ false = same in absurd cc
both_same records (Some t) None same = let wrong : false ≡ true = same in absurd cc
both_same records (Some t) (Some u) same = refl

module _ {H D T : Type 0} {hashes : Hashes H} {g : Ghosts D} {k : Ghosts T}
    (old ready : Mirror H D T hashes g k) (journal : ready.journal ≡ old.journal)
    (view : mirror_view ready ≡ mirror_view old)
    (tiles : is_some (k.contents (mirror_tiles_disk ready))
    ≡ is_some (k.contents (mirror_tiles_disk old))) where
  owner_same : mirror_owner ready ≡ mirror_owner old
  owner_same =
      ap (λ (j : Journal D g). owner_over j (durable_records j) (mirror_view ready)) journal
      ∙ ap (owner_over old.journal (mirror_records old)) view

  modelled_same : modelled_mirror ready ≡ modelled_mirror old
  modelled_same =
      ap (λ (j : Journal D g). option_map (mirror_with (mirror_view ready)) (durable_records j))
      journal
      ∙ ap (λ (v : MirrorView). option_map (mirror_with v) (mirror_records old)) view

  by_both_same : mirror_by_both ready ≡ mirror_by_both old
  by_both_same =
      ap (option_map (mirror_with (mirror_view ready)))
      (both_same (mirror_records ready) (k.contents (mirror_tiles_disk old))
      (k.contents (mirror_tiles_disk ready)) tiles)
      ∙ ap (λ (j : Journal D g). option_map (mirror_with (mirror_view ready))
      (option_and_then (λ (t : Text). durable_records j) (k.contents (mirror_tiles_disk old))))
      journal
      ∙ ap (λ (v : MirrorView). option_map (mirror_with v)
      (option_and_then (λ (t : Text). mirror_records old) (k.contents (mirror_tiles_disk old))))
      view

  -- a refusal before the append
  pub appends_not : {X : Type 0} (body : Text) (seen : MirrorView → MirrorView)
      (next : MirrorState → MirrorState) (result : Result X MirrorError) (why : MirrorError)
      → IsErrAnd result (λ e. e ≡ why) → of_mirror_journal why ≡ None
      → ((c : Text) → g.left_since (mirror_disk old) (g.clock_at (mirror_disk old)) c
      → g.may_leave (mirror_disk old) c) → MirrorAppends {X = X} body seen next old ready result
  appends_not {X = X} body seen next result why is none only_now =
      subst (MirrorAppends {X = X} body seen next old ready) (err_is result why is) (record {
        journal = subst (λ (o : Owner D MirrorView). OwnerAppends {X = X} g of_mirror_journal body
            (seen (mirror_view old)) (mirror_owner old) o (Err why)) (sym owner_same)
            (owner_stays g of_mirror_journal body (seen (mirror_view old)) old.journal
            (mirror_view old) why
            none only_now);
        is_modelled = record {
          contents = modelled_same;
          leaves = ap (option_map (λ (s : MirrorState). map (leaf_hash hashes.hash)
              (entries_in_mirror s)))
              by_both_same;
        };
      })

  module _ (new : Mirror H D T hashes g k) where
    moves_same : {X : Type 0} (next : MirrorState → MirrorState) (result : Result X MirrorError)
        → MirrorModelMoves next ready new result → MirrorModelMoves next old new result
    moves_same next (Ok answer) is = record {
      contents = is.contents ∙ ap (option_map next) modelled_same;
      leaves = is.leaves
          ∙ ap (option_map (λ (s : MirrorState). map (leaf_hash hashes.hash)
          (entries_in_mirror (next s))))
          by_both_same;
    }
    moves_same next (Err why) is = record {
      contents = is.contents ∙ modelled_same;
      leaves = is.leaves
          ∙ ap (option_map (λ (s : MirrorState). map (leaf_hash hashes.hash) (entries_in_mirror s)))
          by_both_same;
    }

    -- What the append of a record makes of a mirror that was made ready, it makes of the mirror
    -- before.
    pub appends_moved : {X : Type 0} (text body : Text) (seen : MirrorView → MirrorView)
        (next : MirrorState → MirrorState) (result : Result X MirrorError) → text ≡ body
        → MirrorAppends {X = X} text seen next ready new result
        → MirrorAppends {X = X} body seen next old new result
    appends_moved {X = X} text body seen next result encoded is =
        subst (λ (b : Text). MirrorAppends {X = X} b seen next old new result) encoded (record {
          journal = subst (λ (o : Owner D MirrorView). OwnerAppends g of_mirror_journal text
              (seen o.state) o (mirror_owner new) result) owner_same is.journal;
          is_modelled = moves_same next result is.is_modelled;
        })

    pub appends_from : {X : Type 0} (text body : Text) (seen : MirrorView → MirrorView)
        (next : MirrorState → MirrorState) (result : Result X MirrorError) → text ≡ body
        → IsMirroredAs hashes.hash (mirror_view old) body seen next
        → (IsMirroredAs hashes.hash (mirror_view ready) text seen next
        → MirrorAppends {X = X} text seen next ready new result)
        → MirrorAppends {X = X} body seen next old new result
    appends_from {X = X} text body seen next result encoded taken each =
        appends_moved text body seen next result encoded
        (each (subst (λ (v : MirrorView). IsMirroredAs hashes.hash v text seen next) (sym view)
        (subst (λ (b : Text). IsMirroredAs hashes.hash (mirror_view old) b seen next) (sym encoded)
        taken)))

-- ---- where a record is appended

module _ {H D T : Type 0} {hashes : Hashes H} {g : Ghosts D} {k : Ghosts T}
    (old new : Mirror H D T hashes g k)
    (tiles : is_some (k.contents (mirror_tiles_disk new))
    ≡ is_some (k.contents (mirror_tiles_disk old))) {X : Type 0} (body : Text)
    (seen : MirrorView → MirrorView) (next : MirrorState → MirrorState) where
  -- the append was refused, or failed
  pub appends_err : (result : Result X MirrorError) (why : AppendError)
      → IsErrAnd result (λ e. e ≡ Append why)
      → OwnerAppends {X = Unit {0}} {E = AppendError} g (λ why. Some why) body
      (seen (mirror_view old)) (mirror_owner old) (mirror_owner new) (Err why)
      → mirror_records new ≡ mirror_records old → mirror_view new ≡ mirror_view old
      → MirrorAppends {X = X} body seen next old new result
  appends_err result why refused did records view =
      let same : modelled_mirror new ≡ modelled_mirror old =
      ap (λ (u : MirrorView). option_map (mirror_with u) (mirror_records new)) view
      ∙ ap (option_map (mirror_with (mirror_view old))) records in
      subst (MirrorAppends {X = X} body seen next old new) (err_is result (Append why) refused)
      (record {
        journal = owner_refused g of_mirror_journal body (seen (mirror_view old)) (mirror_owner old)
            (mirror_owner new) why (Append why) refl did;
        is_modelled = record {
          contents = same;
          leaves = leaves_same hashes.hash (mirror_view old) (mirror_view new)
              (k.contents (mirror_tiles_disk old)) (k.contents (mirror_tiles_disk new))
              (mirror_records old) (mirror_records new) tiles same;
        };
      })

  -- or was not
  pub appends_ok : (answer : X)
      → OwnerAppends {X = Unit {0}} {E = AppendError} g (λ why. Some why) body
      (seen (mirror_view old)) (mirror_owner old) (mirror_owner new) (Ok tt)
      → IsMirroredAs hashes.hash (mirror_view old) body seen next
      → MirrorAppends {X = X} body seen next old new (Ok answer)
  appends_ok answer did taken =
      let h = hashes.hash in
      let v = mirror_view old in
      let places = kept_places old.machine.kept in
      let leaves = kept_leaves old.machine.kept in
      let view = did.leaves.state in
      record {
        journal = owner_grows g of_mirror_journal body (seen v) (mirror_owner old)
            (mirror_owner new) answer
            did;
        is_modelled = record {
          contents = ap (λ (u : MirrorView). option_map (mirror_with u) (mirror_records new)) view
              ∙ grown_modelled h v places leaves (mirror_records old) (mirror_records new) body seen
              next did.leaves.records taken (mirror_keeps old);
          leaves = ap (λ (u : MirrorView). leaves_by h u (k.contents (mirror_tiles_disk new))
              (mirror_records new)) view
              ∙ grown_leaves h v places leaves (mirror_records old) (mirror_records new) body seen
              next
              did.leaves.records taken (mirror_keeps old) (k.contents (mirror_tiles_disk old))
              (k.contents (mirror_tiles_disk new)) tiles;
        };
      }

-- ---- where the journal alone refuses

-- what an append leaves that is refused, or fails
pub owner_failed : {D S : Type 0} (g : Ghosts D) (old new : Journal D g) (s : S) (body : Text)
    (next : S) (why : AppendError) → JournalAppends body old new (Err why)
    → OwnerAppends {X = Unit {0}} {E = AppendError} g (λ why. Some why) body next
    (owner_over old (durable_records old) s) (owner_over new (durable_records new) s) (Err why)
owner_failed g old new s body next why did = record {
  leaves = refused_by old new body (durable_records old) (durable_records new) s s refl why
      did.leaves did.broken;
  kept = tt;
  count = did.count;
  any_time = λ sound. of_sound old (λ list. LeavesOnly g (disk_of old) (disk_of new)
      (RepresentsEither list body)) sound (did.any_time sound);
  afterwards = λ sound. of_sound old (λ list. (c : Text) → g.may_leave (disk_of new) c
      → RepresentsEither list body c) sound (did.afterwards sound);
}

-- what is counted of failures, by what the journal answers
pub counts_all : {D S X : Type 0} (g : Ghosts D) (body : Text) (next : S) (old new : Owner D S)
    (o : Option AppendError) (result : Result X MirrorError) → KeepsToMirrorJournal o result
    → OwnerLeaves g of_mirror_journal body next old new result
    → MirrorCountsAll (g.faults old.disk) (g.faults new.disk) result
counts_all g body next old new o (Ok answer) is leaves = leaves.fine
counts_all {X = X} g body next old new o (Err why) is leaves =
    subst (λ (e : MirrorError). MirrorCountsAll {X = X} (g.faults old.disk) (g.faults new.disk)
    (Err e)) (sym is.1.0) (each is.0
    (subst (λ (e : MirrorError). OwnerIsRefused g (of_mirror_journal e) old new) is.1.0 leaves))
  where
    each : (e : AppendError) → OwnerIsRefused g (Some e) old new
        → MirrorCountsAll {X = X} (g.faults old.disk) (g.faults new.disk) (Err (Append e))
    each Failed did = did.cause
    each Broken did = ap g.faults did.disk
    each Full did = ap g.faults did.disk

-- a journal whose file would pass its longest refuses the record
pub refused_only : {D : Type 0} {g : Ghosts D} (old new : Journal D g) (body : Text)
    (result : Result (Unit {0}) AppendError) → JournalAppends body old new result
    → most_bytes < end_of old + 5 + length body → (why : AppendError) × (result ≡ Err why)
refused_only old new body (Err why) did long = (why, refl)
refused_only old new body (Ok done) did long =
    let wrong = did.full.1 (did.leaves.was_sound, long) in absurd cc
