use Rattle.std.proofs.Common.{[], ◌∷◌, inl, refl}
use Rattle.std.proofs.lemmas.Result.{err_from_is_err_and}
use Rattle.mtc_monitor.specs.HeldOutcome.{held_says}
use Rattle.mtc_monitor.proofs.held.held.Goals as goal

pub returns-in_err-bytes : goal.returns-in_err-bytes
returns-in_err-bytes g c =
    let p = err_from_is_err_and c.from_residual.result c.from_residual.ensures.1 in
    rw (p.1, p.2) (c.in_err-bytes.ensures.stops (c.args.export.now ∷ []) []
    (held_says g.H.TreeHash.hash c.args.export.now) (inl refl))
