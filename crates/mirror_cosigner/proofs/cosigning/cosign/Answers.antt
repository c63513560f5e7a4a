use Rattle.std.proofs.Common.{ℕ, arith, ◌∙◌, ap, subst, Result}
use Rattle.byte_formats.specs.Types.{Hash}
use Rattle.byte_formats.proofs.Values.{err_is}
use Rattle.cosigner_core.specs.Words.{cosigner_owner}
use Rattle.mirror_core.specs.Folds.{MirrorView, mirror_with}
use Rattle.mirror_core.specs.Words.{mirror_both_records, mirror_by_both, mirror_disk, mirror_view}
use Rattle.mirror_cosigner.specs.Works.{CosignsBySome}
use Rattle.mirror_cosigner.specs.declared.error.MirrorStepError.{MirrorStepError}
use Rattle.mirror_cosigner.specs.declared.error.MirrorStepError.TheVariants.{Cosign}
use Rattle.mirror_cosigner.proofs.Advanced.{held_is}
use Rattle.mirror_cosigner.proofs.Cosigned.{cosign_asked, cosign_never, cosign_refused_by}
use Rattle.mirror_cosigner.proofs.Cosigned.{cosigns_known}
use Rattle.mirror_cosigner.proofs.Hashed.{logged_by_both, sized_by_both}
use Rattle.mirror_cosigner.proofs.Keeping.{at_shown, cosign_agree, made_by_both}
use Rattle.mirror_cosigner.proofs.cosigning.cosign.Goals as goal

pub returns-in_err-signing-clause-some : goal.returns-in_err-signing-clause-some
returns-in_err-signing-clause-some g c =
    let mirror = c.args.mirror.now in
    cosign_refused_by g.C.Disk g.H.TreeHash.hash (mirror_by_both mirror) (mirror_view mirror)
    c.args.start c.args.end _ (logged_by_both mirror) c.args.cosigner.now.keyless
    c.clear.new.self c.in_err-signing.field-0.0
    c.from_residual.result
    (held_is c.held-held.result (cosigner_owner c.args.cosigner.now).state.held
    c.held-held.ensures)
    c.in_err-signing.ensures.made
    (err_is c.from_residual.result c.in_err-signing.field-0.0 c.from_residual.ensures.1)
    (g.met.C.Disk.only_now _)

pub returns-in_err-signing-clause-known : goal.returns-in_err-signing-clause-known
returns-in_err-signing-clause-known g c =
    let mirror = c.args.mirror.now in
    cosigns_known g.C.Disk g.H.TreeHash.hash (mirror_view mirror) c.args.start c.args.end _ _ _ _
    (mirror_by_both mirror) (sized_by_both mirror) (returns-in_err-signing-clause-some g c)

pub returns-in_err-cosign-clause-some : goal.returns-in_err-cosign-clause-some
returns-in_err-cosign-clause-some g c =
    let mirror = c.args.mirror.now in
    let h = g.H.TreeHash.hash in
    let old = cosigner_owner c.args.cosigner.now in
    let new = cosigner_owner c.cosign.new.self in
    subst (λ (r : Result (Unit {0}) MirrorStepError). CosignsBySome g.C.Disk h
    (mirror_by_both mirror) (mirror_view mirror) c.args.start c.args.end old new c.cosign.new.out r)
    (err_is c.from_residual-in_err-cosign.result (Cosign c.in_err-cosign.field-0.0)
    c.from_residual-in_err-cosign.ensures.1)
    (cosign_asked g.C.Disk h (mirror_by_both mirror) (mirror_view mirror) c.args.start c.args.end _
    (logged_by_both mirror) old new c.in_ok-signing.signing c.as_bytes.result.now
    c.as_slice.result.now c.cosign.new.out _
    (held_is c.held-held.result old.state.held c.held-held.ensures)
    c.in_ok-signing.ensures.made
    (c.as_bytes.ensures.value ∙ c.log.ensures
    ∙ ap (λ (v : MirrorView). v.log) c.make_signing.ensures.asks.view)
    c.as_slice.ensures.value c.in_err-cosign.ensures.appends c.in_err-cosign.ensures.answer
    c.in_err-cosign.ensures.valid c.in_err-cosign.ensures.number c.in_err-cosign.ensures.records
    tt tt)

pub returns-in_err-cosign-clause-known : goal.returns-in_err-cosign-clause-known
returns-in_err-cosign-clause-known g c =
    let mirror = c.args.mirror.now in
    cosigns_known g.C.Disk g.H.TreeHash.hash (mirror_view mirror) c.args.start c.args.end _ _ _ _
    (mirror_by_both mirror) (sized_by_both mirror) (returns-in_err-cosign-clause-some g c)

pub returns-in_err-cosign-clause-never : goal.returns-in_err-cosign-clause-never
returns-in_err-cosign-clause-never g c =
    cosign_never g.C.Disk g.H.TreeHash.hash c.args.start c.args.end _ _ _ _
    (mirror_by_both c.args.mirror.now) (returns-in_err-cosign-clause-known g c)

pub returns-clause-some : goal.returns-clause-some
returns-clause-some g c =
    let mirror = c.args.mirror.now in
    let h = g.H.TreeHash.hash in
    let old = cosigner_owner c.args.cosigner.now in
    let new = cosigner_owner c.cosign.new.self in
    cosign_asked g.C.Disk h (mirror_by_both mirror) (mirror_view mirror) c.args.start c.args.end _
    (logged_by_both mirror) old new c.in_ok-signing.signing c.as_bytes.result.now
    c.as_slice.result.now c.cosign.new.out _
    (held_is c.held-held.result old.state.held c.held-held.ensures)
    c.in_ok-signing.ensures.made
    (c.as_bytes.ensures.value ∙ c.log.ensures
    ∙ ap (λ (v : MirrorView). v.log) c.make_signing.ensures.asks.view)
    c.as_slice.ensures.value c.in_ok-cosign.ensures.appends c.in_ok-cosign.ensures.answer
    c.in_ok-cosign.ensures.valid c.in_ok-cosign.ensures.number c.in_ok-cosign.ensures.records
    c.in_ok-cosign.ensures.signature c.in_ok-cosign.ensures.verifies

pub returns-clause-known : goal.returns-clause-known
returns-clause-known g c =
    let mirror = c.args.mirror.now in
    cosigns_known g.C.Disk g.H.TreeHash.hash (mirror_view mirror) c.args.start c.args.end _ _ _ _
    (mirror_by_both mirror) (sized_by_both mirror) (returns-clause-some g c)

pub returns-in_err-signing-clause-agree : goal.returns-in_err-signing-clause-agree
returns-in_err-signing-clause-agree g c =
    let mirror = c.args.mirror.now in
    let held = (cosigner_owner c.args.cosigner.now).state.held in
    let same = ap (λ (x : ℕ × Hash). x.0) c.held-held.ensures in
    let word = c.held-held.type_inv.0 in
    at_shown g.H.TreeHash.hash (mirror_view mirror) (mirror_both_records mirror) _ _
    (made_by_both mirror) (returns-in_err-signing-clause-known g c)
    (λ shown made is. cosign_agree g.D.Disk g.C.Disk g.H.TreeHash.hash g.met.H.TreeHash.sized
    (mirror_with (mirror_view mirror) shown) shown made (mirror_disk mirror) _
    c.make_signing.ensures.asks.disk (g.met.D.Disk.only_now _) c.args.cosigner.now.keyless _
    (g.met.C.Disk.only_now _) (g.met.C.Disk.reads_crash_state _) c.args.start c.args.end _ _
    (omega (arith, same, word)) is)

pub returns-in_err-cosign-clause-agree : goal.returns-in_err-cosign-clause-agree
returns-in_err-cosign-clause-agree g c =
    let mirror = c.args.mirror.now in
    let held = (cosigner_owner c.args.cosigner.now).state.held in
    let same = ap (λ (x : ℕ × Hash). x.0) c.held-held.ensures in
    let word = c.held-held.type_inv.0 in
    at_shown g.H.TreeHash.hash (mirror_view mirror) (mirror_both_records mirror) _ _
    (made_by_both mirror) (returns-in_err-cosign-clause-known g c)
    (λ shown made is. cosign_agree g.D.Disk g.C.Disk g.H.TreeHash.hash g.met.H.TreeHash.sized
    (mirror_with (mirror_view mirror) shown) shown made (mirror_disk mirror) _
    c.make_signing.ensures.asks.disk (g.met.D.Disk.only_now _) c.args.cosigner.now.keyless
    (cosigner_owner c.cosign.new.self)
    (g.met.C.Disk.only_now _) (g.met.C.Disk.reads_crash_state _) c.args.start c.args.end _ _
    (omega (arith, same, word)) is)

pub returns-clause-agree : goal.returns-clause-agree
returns-clause-agree g c =
    let mirror = c.args.mirror.now in
    let held = (cosigner_owner c.args.cosigner.now).state.held in
    let same = ap (λ (x : ℕ × Hash). x.0) c.held-held.ensures in
    let word = c.held-held.type_inv.0 in
    at_shown g.H.TreeHash.hash (mirror_view mirror) (mirror_both_records mirror) _ _
    (made_by_both mirror) (returns-clause-known g c)
    (λ shown made is. cosign_agree g.D.Disk g.C.Disk g.H.TreeHash.hash g.met.H.TreeHash.sized
    (mirror_with (mirror_view mirror) shown) shown made (mirror_disk mirror) _
    c.make_signing.ensures.asks.disk (g.met.D.Disk.only_now _) c.args.cosigner.now.keyless
    (cosigner_owner c.cosign.new.self)
    (g.met.C.Disk.only_now _) (g.met.C.Disk.reads_crash_state _) c.args.start c.args.end _ _
    (omega (arith, same, word)) is)
