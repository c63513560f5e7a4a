use Rattle.std.proofs.Common.{arith, ◌∙◌, ap, subst, Result}
use Rattle.byte_formats.proofs.Values.{err_is}
use Rattle.cosigner_core.specs.Keyless.{keyless_owner}
use Rattle.mirror_core.specs.Folds.{MirrorView, mirror_with}
use Rattle.mirror_core.specs.Words.{mirror_both_records, mirror_by_both, mirror_disk, mirror_view}
use Rattle.mirror_cosigner.specs.Works.{AdvancesBySome}
use Rattle.mirror_cosigner.specs.declared.error.MirrorStepError.{MirrorStepError}
use Rattle.mirror_cosigner.specs.declared.error.MirrorStepError.TheVariants.{Cosign}
use Rattle.mirror_cosigner.proofs.Advanced.{advance_asked, advance_never, advance_refused_by}
use Rattle.mirror_cosigner.proofs.Advanced.{advances_known, held_is}
use Rattle.mirror_cosigner.proofs.Hashed.{logged_by_both, sized_by_both}
use Rattle.mirror_cosigner.proofs.Keeping.{advance_agree, at_shown, made_by_both}
use Rattle.mirror_cosigner.proofs.advancing.advance.Goals as goal

pub returns-in_err-growth-clause-some : goal.returns-in_err-growth-clause-some
returns-in_err-growth-clause-some g c =
    let mirror = c.args.mirror.now in
    advance_refused_by g.C.Disk g.H.TreeHash.hash (mirror_by_both mirror) (mirror_view mirror)
    c.args.size _ (logged_by_both mirror) c.args.cosigner.now c.in_err-growth.field-0.0
    c.from_residual.result
    (held_is c.held-held.result (keyless_owner c.args.cosigner.now).state.held
    c.held-held.ensures)
    c.in_err-growth.ensures.made
    (err_is c.from_residual.result c.in_err-growth.field-0.0 c.from_residual.ensures.1)
    (g.met.C.Disk.only_now _)

pub returns-in_err-growth-clause-known : goal.returns-in_err-growth-clause-known
returns-in_err-growth-clause-known g c =
    let mirror = c.args.mirror.now in
    advances_known g.C.Disk g.H.TreeHash.hash (mirror_view mirror) c.args.size _ _ _
    (mirror_by_both mirror) (sized_by_both mirror) (returns-in_err-growth-clause-some g c)

pub returns-in_err-advance-clause-some : goal.returns-in_err-advance-clause-some
returns-in_err-advance-clause-some g c =
    let mirror = c.args.mirror.now in
    let h = g.H.TreeHash.hash in
    let old = keyless_owner c.args.cosigner.now in
    let new = keyless_owner c.advance.new.self in
    subst (λ (r : Result (Unit {0}) MirrorStepError). AdvancesBySome g.C.Disk h
    (mirror_by_both mirror) (mirror_view mirror) c.args.size old new r)
    (err_is c.from_residual-in_err-advance.result (Cosign c.in_err-advance.field-0.0)
    c.from_residual-in_err-advance.ensures.1)
    (advance_asked g.C.Disk h (mirror_by_both mirror) (mirror_view mirror) c.args.size _
    (logged_by_both mirror) old new c.in_ok-growth.growth c.as_bytes.result.now
    c.as_slice.result.now _
    (held_is c.held-held.result old.state.held c.held-held.ensures)
    c.in_ok-growth.ensures.made
    (c.as_bytes.ensures.value ∙ c.log.ensures
    ∙ ap (λ (v : MirrorView). v.log) c.make_growth.ensures.asks.view)
    c.as_slice.ensures.value c.in_err-advance.ensures.appends c.in_err-advance.ensures.answer
    c.in_err-advance.ensures.valid c.in_err-advance.ensures.records)

pub returns-in_err-advance-clause-known : goal.returns-in_err-advance-clause-known
returns-in_err-advance-clause-known g c =
    let mirror = c.args.mirror.now in
    advances_known g.C.Disk g.H.TreeHash.hash (mirror_view mirror) c.args.size _ _ _
    (mirror_by_both mirror) (sized_by_both mirror) (returns-in_err-advance-clause-some g c)

pub returns-in_err-advance-clause-never : goal.returns-in_err-advance-clause-never
returns-in_err-advance-clause-never g c =
    advance_never g.C.Disk g.H.TreeHash.hash c.args.size _ _ _
    (mirror_by_both c.args.mirror.now) (returns-in_err-advance-clause-known g c)

pub returns-clause-some : goal.returns-clause-some
returns-clause-some g c =
    let mirror = c.args.mirror.now in
    let h = g.H.TreeHash.hash in
    let old = keyless_owner c.args.cosigner.now in
    let new = keyless_owner c.advance.new.self in
    advance_asked g.C.Disk h (mirror_by_both mirror) (mirror_view mirror) c.args.size _
    (logged_by_both mirror) old new c.in_ok-growth.growth c.as_bytes.result.now
    c.as_slice.result.now _
    (held_is c.held-held.result old.state.held c.held-held.ensures)
    c.in_ok-growth.ensures.made
    (c.as_bytes.ensures.value ∙ c.log.ensures
    ∙ ap (λ (v : MirrorView). v.log) c.make_growth.ensures.asks.view)
    c.as_slice.ensures.value c.in_ok-advance.ensures.appends c.in_ok-advance.ensures.answer
    c.in_ok-advance.ensures.valid c.in_ok-advance.ensures.records

pub returns-clause-known : goal.returns-clause-known
returns-clause-known g c =
    let mirror = c.args.mirror.now in
    advances_known g.C.Disk g.H.TreeHash.hash (mirror_view mirror) c.args.size _ _ _
    (mirror_by_both mirror) (sized_by_both mirror) (returns-clause-some g c)

pub returns-in_err-growth-clause-agree : goal.returns-in_err-growth-clause-agree
returns-in_err-growth-clause-agree g c =
    let mirror = c.args.mirror.now in
    at_shown g.H.TreeHash.hash (mirror_view mirror) (mirror_both_records mirror) _ _
    (made_by_both mirror) (returns-in_err-growth-clause-known g c)
    (λ shown made is. advance_agree g.D.Disk g.C.Disk g.H.TreeHash.hash g.met.H.TreeHash.sized
    (mirror_with (mirror_view mirror) shown) shown made (mirror_disk mirror) _
    c.make_growth.ensures.asks.disk (g.met.D.Disk.only_now _) c.args.cosigner.now _
    (g.met.C.Disk.only_now _) (g.met.C.Disk.reads_crash_state _) c.args.size _
    (omega (arith, c.ranges.size.fits)) is)

pub returns-in_err-advance-clause-agree : goal.returns-in_err-advance-clause-agree
returns-in_err-advance-clause-agree g c =
    let mirror = c.args.mirror.now in
    at_shown g.H.TreeHash.hash (mirror_view mirror) (mirror_both_records mirror) _ _
    (made_by_both mirror) (returns-in_err-advance-clause-known g c)
    (λ shown made is. advance_agree g.D.Disk g.C.Disk g.H.TreeHash.hash g.met.H.TreeHash.sized
    (mirror_with (mirror_view mirror) shown) shown made (mirror_disk mirror) _
    c.make_growth.ensures.asks.disk (g.met.D.Disk.only_now _) c.args.cosigner.now
    (keyless_owner c.advance.new.self)
    (g.met.C.Disk.only_now _) (g.met.C.Disk.reads_crash_state _) c.args.size _
    (omega (arith, c.ranges.size.fits)) is)

pub returns-clause-agree : goal.returns-clause-agree
returns-clause-agree g c =
    let mirror = c.args.mirror.now in
    at_shown g.H.TreeHash.hash (mirror_view mirror) (mirror_both_records mirror) _ _
    (made_by_both mirror) (returns-clause-known g c)
    (λ shown made is. advance_agree g.D.Disk g.C.Disk g.H.TreeHash.hash g.met.H.TreeHash.sized
    (mirror_with (mirror_view mirror) shown) shown made (mirror_disk mirror) _
    c.make_growth.ensures.asks.disk (g.met.D.Disk.only_now _) c.args.cosigner.now
    (keyless_owner c.advance.new.self)
    (g.met.C.Disk.only_now _) (g.met.C.Disk.reads_crash_state _) c.args.size _
    (omega (arith, c.ranges.size.fits)) is)
