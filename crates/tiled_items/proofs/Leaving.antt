-- What a call that appends a record leaves, where its memory is taken first.
use Rattle.std.proofs.Common.{◌≡◌, None, Result, Err, ap, subst, sym}
use Rattle.std.specs.Result.{IsErrAnd}
use Rattle.byte_formats.specs.Types.{Text}
use Rattle.byte_formats.proofs.Values.{err_is}
use Rattle.disk_core.specs.declared.disk.Disk.{Ghosts}
use Rattle.journal_core.specs.Owners.{Owner, OwnerAppends, owner_over}
use Rattle.state_journal.proofs.Owners.{owner_stays}
use Rattle.tree_core.specs.declared.hashing.TreeHash.{Ghosts as Hashes}
use Rattle.tiled_items.specs.Words.{of_tiled_journal, tiled_disk, tiled_owner, tiled_records}
use Rattle.tiled_items.specs.Words.{tiled_view}
use Rattle.tiled_items.specs.declared.error.TiledError.{TiledError}
use Rattle.tiled_items.specs.declared.rules.ItemRules.{Ghosts as Rules}
use Rattle.tiled_items.specs.declared.tiled.TiledItems.{TiledItems}

module _ {R H D T : Type 0} {rules : Rules R} {hashes : Hashes H} {g : Ghosts D} {k : Ghosts T}
    (old : TiledItems R H D T rules hashes g k) (view : rules.View) (same : view ≡ tiled_view old)
  where
    -- what is shown once the memory is taken
    abbrev ready_owner : Owner D rules.View
    ready_owner = owner_over old.journal (tiled_records old) view

    owner_same : ready_owner ≡ tiled_owner old
    owner_same = ap (owner_over old.journal (tiled_records old)) same

    -- a refusal before the append
    pub appends_not : {X : Type 0} (body : Text) (next : rules.View) (result : Result X TiledError)
        (why : TiledError) → IsErrAnd result (λ e. e ≡ why) → of_tiled_journal why ≡ None
        → ((c : Text) → g.left_since (tiled_disk old) (g.clock_at (tiled_disk old)) c
        → g.may_leave (tiled_disk old) c)
        → OwnerAppends {X = X} g of_tiled_journal body next (tiled_owner old) ready_owner result
    appends_not {X = X} body next result why is none only_now =
        subst (OwnerAppends {X = X} g of_tiled_journal body next (tiled_owner old) ready_owner)
        (err_is result why is)
        (subst (λ (o : Owner D rules.View). OwnerAppends {X = X} g of_tiled_journal body next
        (tiled_owner old) o (Err why)) (sym owner_same)
        (owner_stays g of_tiled_journal body next old.journal (tiled_view old) why none only_now))

    -- What the append of a record leaves once its memory is taken, the call leaves.
    pub appends_from : {X : Type 0} (new : Owner D rules.View) (body : Text) (next : rules.View)
        (result : Result X TiledError)
        → OwnerAppends {X = X} g of_tiled_journal body next ready_owner new result
        → OwnerAppends {X = X} g of_tiled_journal body next (tiled_owner old) new result
    appends_from {X = X} new body next result is =
        subst (λ (o : Owner D rules.View). OwnerAppends {X = X} g of_tiled_journal body next o new
        result) owner_same is
