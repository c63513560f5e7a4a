use Rattle.std.proofs.Common.{◌≡◌, ◌∙◌, ℕ, IfOk, ap, arith, refl, subst, sym}
use Rattle.std.specs.Prelude.{Err, Ok, OnOk, Result, max}
use Rattle.byte_formats.proofs.Values.{err_is}
use Rattle.tile_store.specs.Layout.{tiles_end}
use Rattle.state_journal.proofs.Appended.{is_allowed}
use Rattle.mirror_core.specs.declared.error.MirrorError.TheVariants.{Failed}
use Rattle.issuance_log.specs.Records.{tiles_record}
use Rattle.mirror_core.proofs.mirror.Mirror.tile.Goals as goal
use Rattle.mirror_core.proofs.Answering.{counts_none, tiled_answer, tiles_not_old}
use Rattle.mirror_core.proofs.Changes.{size_fits, stored_by, tiles_ready}
use Rattle.mirror_core.proofs.Changes.{tiles_record_of, tiles_taken_as}
use Rattle.mirror_core.proofs.Leaving.{appends_from, appends_not}
use Rattle.mirror_core.proofs.Telling.{some_modelled}
use Rattle.mirror_core.proofs.Tiling.{after_none, after_stored, keeps_still}
use Rattle.issuance_log.proofs.Tiling.{reach_to}
use Rattle.mirror_core.proofs.Tiling.{keeps_stored, stored_still}
use Rattle.mirror_core.specs.Durable.{IsDurableMirror}
use Rattle.mirror_core.specs.Folds.{mirror_tiled_to, with_mirror_tiles}
use Rattle.mirror_core.specs.Kept.{kept_places, kept_tiles}
use Rattle.mirror_core.specs.Refusals.{MirrorCounts, MirrorTilesKeepTo, full_mirror_size}
use Rattle.mirror_core.specs.Refusals.{mirror_tile_refusal}
use Rattle.mirror_core.specs.Words.{mirror_broken, mirror_end}
use Rattle.mirror_core.specs.Words.{mirror_tiles_disk, mirror_view}

pub store-requires : goal.store-requires
store-requires g c =
    let counted = c.args.self.now.counted in
    let size = c.full_size-size.ensures.value in
    omega arith

pub append_record-requires : goal.append_record-requires
append_record-requires g c =
    let it = c.args.self.now.machine in
    let v = mirror_view c.args.self.now in
    let sound = c.full_size-size.ensures.sound in
    let small = size_fits v sound in
    let text = c.as_slice.result.now in
    let text_is = c.as_slice.ensures ∙ c.in_ok-body.ensures.body in
    let value = c.full_size-size.ensures.value in
    let stored = c.in_ok-store.ensures.stored.stored in
    let good =
    tiles_record_of g.H.TreeHash.hash v (full_mirror_size v) (omega arith) (omega arith)
    c.in_ok-body.ensures.above (omega arith) text text_is in
    record {
      some = good.some;
      few = good.few;
      allowed = is_allowed _ _ good.takes;
      capacity = record {
        capacity = tiles_ready _ text (full_mirror_size v) text_is;
        stored = stored_by g.H.TreeHash.hash v (mirror_tiled_to (full_mirror_size v) v) text _
            good.takes
            (omega arith);
      };
    }

pub returns-in_err-body-clause-appends : goal.returns-in_err-body-clause-appends
returns-in_err-body-clause-appends g c =
    let mirror = c.args.self.now in
    let size = full_mirror_size (mirror_view mirror) in
    appends_not mirror mirror refl refl refl (tiles_record size) (mirror_tiled_to size)
    (with_mirror_tiles size)
    c.from_residual.result c.in_err-body.field-0.0 c.from_residual.ensures.1
    c.in_err-body.ensures.before (g.met.D.Disk.only_now _)

pub returns-in_err-body-clause-answer : goal.returns-in_err-body-clause-answer
returns-in_err-body-clause-answer g c =
    let mirror = c.args.self.now in
    subst (MirrorTilesKeepTo (mirror_tile_refusal (mirror_view mirror) (mirror_broken mirror)
    (mirror_end mirror)))
    (err_is c.from_residual.result c.in_err-body.field-0.0 c.from_residual.ensures.1)
    (c.in_err-body.ensures.refused (mirror_broken mirror) (mirror_end mirror))

pub returns-in_err-body-clause-keeps : goal.returns-in_err-body-clause-keeps
returns-in_err-body-clause-keeps g c = keeps_still c.args.self.now (g.met.T.Disk.only_now _) _

pub returns-in_err-body-clause-following : goal.returns-in_err-body-clause-following
returns-in_err-body-clause-following g c =
    after_none c.args.self.now (g.met.D.Disk.only_now _) _ _ _

pub returns-in_err-body-clause-cause : goal.returns-in_err-body-clause-cause
returns-in_err-body-clause-cause g c =
    let faults = g.T.Disk.faults (mirror_tiles_disk c.args.self.now) in
    subst (MirrorCounts faults faults)
    (err_is c.from_residual.result c.in_err-body.field-0.0 c.from_residual.ensures.1)
    (c.in_err-body.ensures.counts faults)

pub returns-in_err-store-clause-appends : goal.returns-in_err-store-clause-appends
returns-in_err-store-clause-appends g c =
    let mirror = c.args.self.now in
    let size = full_mirror_size (mirror_view mirror) in
    appends_not mirror _ refl refl
    (some_modelled _ _ (g.T.Disk.contents (mirror_tiles_disk mirror)) _ c.store.ensures.leaves.list)
    (tiles_record size) (mirror_tiled_to size) (with_mirror_tiles size)
    c.from_residual-in_err-store.result Failed c.from_residual-in_err-store.ensures.1 refl
    (g.met.D.Disk.only_now _)

pub returns-in_err-store-clause-answer : goal.returns-in_err-store-clause-answer
returns-in_err-store-clause-answer g c =
    let mirror = c.args.self.now in
    subst (MirrorTilesKeepTo (mirror_tile_refusal (mirror_view mirror) (mirror_broken mirror)
    (mirror_end mirror)))
    (err_is c.from_residual-in_err-store.result Failed c.from_residual-in_err-store.ensures.1)
    (tiles_not_old (mirror_view mirror) (mirror_broken mirror) (mirror_end mirror)
    c.in_ok-body.ensures.above)

pub returns-in_err-store-clause-keeps : goal.returns-in_err-store-clause-keeps
returns-in_err-store-clause-keeps g c =
    keeps_stored c.args.self.now c.full_size-size.ensures.sound _ _ refl
    c.store.ensures.only.any_time

pub returns-in_err-store-clause-following : goal.returns-in_err-store-clause-following
returns-in_err-store-clause-following g c =
    after_none c.args.self.now (g.met.D.Disk.only_now _) _ _ _

pub returns-in_err-store-clause-cause : goal.returns-in_err-store-clause-cause
returns-in_err-store-clause-cause g c =
    subst (MirrorCounts (g.T.Disk.faults (mirror_tiles_disk c.args.self.now)) _)
    (err_is c.from_residual-in_err-store.result Failed c.from_residual-in_err-store.ensures.1)
    c.in_err-store.ensures.cause.failed

pub returns-in_err-store-clause-reach : goal.returns-in_err-store-clause-reach
returns-in_err-store-clause-reach g c =
    reach_to g.T.Disk _ _ (g.T.Disk.known (mirror_tiles_disk c.args.self.now)) _ _ refl
    c.full_size-size.ensures.value c.store.ensures.only.reach

pub returns-clause-appends : goal.returns-clause-appends
returns-clause-appends g c =
    let mirror = c.args.self.now in
    let v = mirror_view mirror in
    let size = full_mirror_size v in
    let small = size_fits v c.full_size-size.ensures.sound in
    appends_from mirror _ refl refl
    (some_modelled _ _ (g.T.Disk.contents (mirror_tiles_disk mirror)) _ c.store.ensures.leaves.list)
    _
    c.as_slice.result.now (tiles_record size) (mirror_tiled_to size) (with_mirror_tiles size) _
    (c.as_slice.ensures ∙ c.in_ok-body.ensures.body)
    (tiles_taken_as g.H.TreeHash.hash v size (omega arith) (omega arith) c.in_ok-body.ensures.above
    (omega arith)) (c.append_record.ensures.appends (mirror_tiled_to size) (with_mirror_tiles size))

pub returns-clause-size : goal.returns-clause-size
returns-clause-size g c = subst (λ (n : ℕ). IfOk c.append_record.result (λ size. size ≡ n))
    c.full_size-size.ensures.value c.append_record.ensures.answer

pub returns-clause-answer : goal.returns-clause-answer
returns-clause-answer g c =
    let mirror = c.args.self.now in
    tiled_answer (mirror_view mirror) (mirror_broken mirror) (mirror_end mirror)
    c.as_slice.result.now
    (c.as_slice.ensures ∙ c.in_ok-body.ensures.body) c.in_ok-body.ensures.above _
    c.append_record.ensures.refusal

pub returns-clause-keeps : goal.returns-clause-keeps
returns-clause-keeps g c =
    keeps_stored c.args.self.now c.full_size-size.ensures.sound _ _ c.append_record.ensures.tiles
    c.store.ensures.only.any_time

pub returns-clause-following : goal.returns-clause-following
returns-clause-following g c = λ sound.
    let mirror = c.args.self.now in
    after_stored mirror _ _ _ (full_mirror_size (mirror_view mirror)) _ _
    c.append_record.ensures.tiles
    c.full_size-size.ensures.value c.in_ok-store.ensures.stored.holds

pub returns-clause-cause : goal.returns-clause-cause
returns-clause-cause g c =
    counts_none _ _ _ _ c.append_record.ensures.refusal
    (ap g.T.Disk.faults c.append_record.ensures.tiles ∙ c.in_ok-store.ensures.cause.fine)

pub returns-clause-reach : goal.returns-clause-reach
returns-clause-reach g c =
    reach_to g.T.Disk _ _ (g.T.Disk.known (mirror_tiles_disk c.args.self.now)) _ _
    c.append_record.ensures.tiles c.full_size-size.ensures.value c.store.ensures.only.reach

-- more tiles are stored, and the leaves stay
pub invariant_of-self : goal.invariant_of-self
invariant_of-self g c =
    let mirror = c.args.self.now in
    let store = c.store.ensures in
    record {
      counted = store.leaves.count ∙ mirror.counted;
      adopted = mirror.adopted;
      stored = stored_still c.full_size-size.result (mirror_view mirror).tiled
          (kept_tiles mirror.machine.kept) c.store.new.self c.store.result mirror.stored
          store.stored store.stored_err;
      placed = mirror.placed;
      long = mirror.long;
      durable = λ b contents. subst (λ leaves. IsDurableMirror g.H.TreeHash.hash
          (mirror_view mirror) (kept_places mirror.machine.kept) leaves (mirror_end mirror) b)
          (sym store.leaves.list) (mirror.durable b contents);
    }

-- how far the disk is known
always : {X E : Type 0} (result : Result X E) (P : Type 0) → P → OnOk result P
always (Ok x) P is = is
always (Err e) P is = tt

pub returns-clause-known : goal.returns-clause-known
returns-clause-known g c =
    let old = g.T.Disk.known (mirror_tiles_disk c.args.self.now) in
    always c.append_record.result _
    (ap g.T.Disk.known c.append_record.ensures.tiles ∙ c.in_ok-store.ensures.stored.known
    ∙ ap (λ (n : ℕ). max (tiles_end n) old) c.full_size-size.ensures.value)
