use Rattle.std.proofs.Common.{[], ◌∷◌, inl, refl}
use Rattle.std.proofs.lemmas.Result.{err_from_is_err_and}
use Rattle.mtc_relying.specs.ShowOutcome.{show_says}
use Rattle.mtc_relying.proofs.show.show.Goals as goal

pub returns-in_err-bytes : goal.returns-in_err-bytes
returns-in_err-bytes g c =
    let p = err_from_is_err_and c.from_residual.result c.from_residual.ensures.1 in
    rw (p.1, p.2) (c.in_err-bytes.ensures.stops
    (c.args.file.now ∷ []) [] (show_says c.args.file.now) (inl refl))
