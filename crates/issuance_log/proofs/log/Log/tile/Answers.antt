use Rattle.std.proofs.Common.{◌≡◌, ◌∙◌, ℕ, IfOk, List, Some, ap, arith, refl, subst, sym}
use Rattle.byte_formats.proofs.Values.{err_is}
use Rattle.state_journal.proofs.Appended.{is_allowed}
use Rattle.issuance_log.specs.Durable.{IsDurableLog}
use Rattle.issuance_log.specs.Entries.{LogCounts}
use Rattle.issuance_log.specs.Folds.{tiled_to, with_tiles}
use Rattle.issuance_log.specs.Items.{items_offsets, items_tiles}
use Rattle.issuance_log.specs.Records.{tiles_record}
use Rattle.issuance_log.specs.Refusals.{TilesKeepTo, full_size, tile_refusal}
use Rattle.issuance_log.specs.Words.{log_broken, log_disk, log_end, log_tiles_disk, view_of}
use Rattle.issuance_log.specs.declared.error.LogError.TheVariants.{Failed}
use Rattle.issuance_log.proofs.Answering.{counts_none, tiled_answer, tiles_not_old}
use Rattle.issuance_log.proofs.Telling.{some_modelled}
use Rattle.issuance_log.proofs.Changes.{stored_by, tiles_ready, tiles_record_of, tiles_taken_as}
use Rattle.issuance_log.proofs.Growth.{size_fits}
use Rattle.issuance_log.proofs.Leaving.{appends_from, appends_not}
use Rattle.issuance_log.proofs.Tiling.{after_none, after_stored, keeps_still, keeps_stored}
use Rattle.issuance_log.proofs.Tiling.{reach_to, stored_still}
use Rattle.issuance_log.proofs.log.Log.tile.Goals as goal

pub store-requires : goal.store-requires
store-requires g c =
    let counted = c.args.self.now.counted in
    let even = c.args.self.now.machine.items.even in
    let size = c.full_size-size.ensures.value in
    omega arith

pub append_record-requires : goal.append_record-requires
append_record-requires g c =
    let it = c.args.self.now.machine in
    let v = view_of c.args.self.now in
    let sound = c.full_size-size.ensures.sound in
    let small = size_fits v sound in
    let text = c.as_slice.result.now in
    let text_is = c.as_slice.ensures ∙ c.in_ok-body.ensures.body in
    let value = c.full_size-size.ensures.value in
    let stored = c.in_ok-store.ensures.stored.stored in
    let good =
    tiles_record_of g.H.TreeHash.hash v (full_size v) (omega arith) (omega arith)
    c.in_ok-body.ensures.above (omega arith) text text_is in
    record {
      some = good.some;
      few = good.few;
      sound = sound;
      allowed = is_allowed _ _ good.takes;
      capacity = record {
        capacity = tiles_ready it.numbers _ text (full_size v) text_is;
        stored = stored_by g.H.TreeHash.hash v (tiled_to (full_size v) v) text _ good.takes
            (omega arith);
      };
    }

pub returns-in_err-body-clause-appends : goal.returns-in_err-body-clause-appends
returns-in_err-body-clause-appends g c =
    let log = c.args.self.now in
    let size = full_size (view_of log) in
    appends_not log log refl refl refl (tiles_record size) (tiled_to size) (with_tiles size)
    c.from_residual.result c.in_err-body.field-0.0 c.from_residual.ensures.1
    c.in_err-body.ensures.before (g.met.D.Disk.only_now _)

pub returns-in_err-body-clause-answer : goal.returns-in_err-body-clause-answer
returns-in_err-body-clause-answer g c =
    let log = c.args.self.now in
    subst (TilesKeepTo (tile_refusal (view_of log) (log_broken log) (log_end log)))
    (err_is c.from_residual.result c.in_err-body.field-0.0 c.from_residual.ensures.1)
    (c.in_err-body.ensures.refused (log_broken log) (log_end log))

pub returns-in_err-body-clause-keeps : goal.returns-in_err-body-clause-keeps
returns-in_err-body-clause-keeps g c = keeps_still c.args.self.now (g.met.T.Disk.only_now _) _

pub returns-in_err-body-clause-following : goal.returns-in_err-body-clause-following
returns-in_err-body-clause-following g c =
    after_none c.args.self.now (g.met.D.Disk.only_now _) _ _ _

pub returns-in_err-body-clause-cause : goal.returns-in_err-body-clause-cause
returns-in_err-body-clause-cause g c =
    let faults = g.T.Disk.faults (log_tiles_disk c.args.self.now) in
    subst (LogCounts faults faults)
    (err_is c.from_residual.result c.in_err-body.field-0.0 c.from_residual.ensures.1)
    (c.in_err-body.ensures.counts faults)

pub returns-in_err-store-clause-appends : goal.returns-in_err-store-clause-appends
returns-in_err-store-clause-appends g c =
    let log = c.args.self.now in
    let size = full_size (view_of log) in
    appends_not log _ refl refl
    (some_modelled _ _ (g.T.Disk.contents (log_tiles_disk log)) _ c.store.ensures.leaves.list)
    (tiles_record size) (tiled_to size) (with_tiles size)
    c.from_residual-in_err-store.result Failed c.from_residual-in_err-store.ensures.1 refl
    (g.met.D.Disk.only_now _)

pub returns-in_err-store-clause-answer : goal.returns-in_err-store-clause-answer
returns-in_err-store-clause-answer g c =
    let log = c.args.self.now in
    subst (TilesKeepTo (tile_refusal (view_of log) (log_broken log) (log_end log)))
    (err_is c.from_residual-in_err-store.result Failed c.from_residual-in_err-store.ensures.1)
    (tiles_not_old (view_of log) (log_broken log) (log_end log) c.in_ok-body.ensures.above)

pub returns-in_err-store-clause-keeps : goal.returns-in_err-store-clause-keeps
returns-in_err-store-clause-keeps g c =
    keeps_stored c.args.self.now c.full_size-size.ensures.sound _ _ refl
    c.store.ensures.only.any_time

pub returns-in_err-store-clause-following : goal.returns-in_err-store-clause-following
returns-in_err-store-clause-following g c =
    after_none c.args.self.now (g.met.D.Disk.only_now _) _ _ _

pub returns-in_err-store-clause-cause : goal.returns-in_err-store-clause-cause
returns-in_err-store-clause-cause g c =
    subst (LogCounts (g.T.Disk.faults (log_tiles_disk c.args.self.now)) _)
    (err_is c.from_residual-in_err-store.result Failed c.from_residual-in_err-store.ensures.1)
    c.in_err-store.ensures.cause.failed

pub returns-in_err-store-clause-reach : goal.returns-in_err-store-clause-reach
returns-in_err-store-clause-reach g c =
    reach_to g.T.Disk _ _ (g.T.Disk.known (log_tiles_disk c.args.self.now)) _ _ refl
    c.full_size-size.ensures.value c.store.ensures.only.reach

pub returns-clause-appends : goal.returns-clause-appends
returns-clause-appends g c =
    let log = c.args.self.now in
    let v = view_of log in
    let size = full_size v in
    let small = size_fits v c.full_size-size.ensures.sound in
    appends_from log _ refl refl
    (some_modelled _ _ (g.T.Disk.contents (log_tiles_disk log)) _ c.store.ensures.leaves.list) _
    c.as_slice.result.now (tiles_record size) (tiled_to size) (with_tiles size) _
    (c.as_slice.ensures ∙ c.in_ok-body.ensures.body)
    (tiles_taken_as g.H.TreeHash.hash v size (omega arith) (omega arith) c.in_ok-body.ensures.above
    (omega arith)) (c.append_record.ensures.appends (tiled_to size) (with_tiles size))

pub returns-clause-size : goal.returns-clause-size
returns-clause-size g c = subst (λ (n : ℕ). IfOk c.append_record.result (λ size. size ≡ n))
    c.full_size-size.ensures.value c.append_record.ensures.answer

pub returns-clause-answer : goal.returns-clause-answer
returns-clause-answer g c =
    let log = c.args.self.now in
    tiled_answer (view_of log) (log_broken log) (log_end log) c.as_slice.result.now
    (c.as_slice.ensures ∙ c.in_ok-body.ensures.body) c.in_ok-body.ensures.above _
    c.append_record.ensures.refusal

pub returns-clause-keeps : goal.returns-clause-keeps
returns-clause-keeps g c =
    keeps_stored c.args.self.now c.full_size-size.ensures.sound _ _ c.append_record.ensures.tiles
    c.store.ensures.only.any_time

pub returns-clause-following : goal.returns-clause-following
returns-clause-following g c = λ sound.
    let log = c.args.self.now in
    after_stored log _ _ _ (full_size (view_of log)) _ _ c.append_record.ensures.tiles
    c.full_size-size.ensures.value c.in_ok-store.ensures.stored.holds

pub returns-clause-cause : goal.returns-clause-cause
returns-clause-cause g c =
    counts_none _ _ _ _ c.append_record.ensures.refusal
    (ap g.T.Disk.faults c.append_record.ensures.tiles ∙ c.in_ok-store.ensures.cause.fine)

pub returns-clause-reach : goal.returns-clause-reach
returns-clause-reach g c =
    reach_to g.T.Disk _ _ (g.T.Disk.known (log_tiles_disk c.args.self.now)) _ _
    c.append_record.ensures.tiles c.full_size-size.ensures.value c.store.ensures.only.reach

-- more tiles are stored, and the leaves stay
pub invariant_of-self : goal.invariant_of-self
invariant_of-self g c =
    let log = c.args.self.now in
    let store = c.store.ensures in
    let stored = stored_still c.full_size-size.result (view_of log).tiled
    (items_tiles log.machine.items) c.store.new.self c.store.result log.stored store.stored
    store.stored_err in
    let durable = λ (b : List ℕ) (contents : g.D.Disk.contents (log_disk log) ≡ Some b).
    subst (λ leaves. IsDurableLog g.H.TreeHash.hash (view_of log)
    (items_offsets log.machine.items) leaves (log_end log) b) (sym store.leaves.list)
    (log.durable b contents) in (
      (store.leaves.count ∙ log.machine.items.even, tt),
      (log.counted, (log.adopted, (stored, (log.below, (durable, tt))))),
    )
