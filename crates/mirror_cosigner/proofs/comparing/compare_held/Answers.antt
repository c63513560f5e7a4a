use Rattle.std.proofs.Common.{Result, subst}
use Rattle.byte_formats.proofs.Values.{err_is}
use Rattle.mirror_core.specs.Words.{mirror_by_both, mirror_view}
use Rattle.mirror_cosigner.specs.Works.{ComparesHeld}
use Rattle.mirror_cosigner.specs.declared.error.MirrorStepError.{MirrorStepError}
use Rattle.mirror_cosigner.specs.declared.error.MirrorStepError.TheVariants.{Failed}
use Rattle.mirror_cosigner.proofs.Tested.{some_own}
use Rattle.mirror_cosigner.proofs.comparing.compare_held.Goals as goal

pub returns-in_err-own-clause-compares : goal.returns-in_err-own-clause-compares
returns-in_err-own-clause-compares g c =
    let h = g.H.TreeHash.hash in
    let known = mirror_by_both c.args.mirror.now in
    let v = mirror_view c.args.mirror.now in
    let some = some_own h known c.args.held.now in
    subst (λ (r : Result (Unit {0}) MirrorStepError). ComparesHeld h known v c.args.held.now r)
    (err_is c.from_residual.result Failed c.from_residual.ensures.1)
    (record { own = some.0; own_is = some.1; answer = tt })
