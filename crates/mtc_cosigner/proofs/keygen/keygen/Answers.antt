use Rattle.std.proofs.Common.{[], ◌∷◌, inl, refl}
use Rattle.std.proofs.lemmas.Result.{err_from_is_err_and}
use Rattle.mtc_cosigner.specs.KeygenOutcome.{keygen_says}
use Rattle.mtc_cosigner.proofs.keygen.keygen.Goals as goal

pub returns-in_err-secret : goal.returns-in_err-secret
returns-in_err-secret g c =
    let p = err_from_is_err_and c.from_residual.result c.from_residual.ensures.1 in
    rw (p.1, p.2) (c.in_err-secret.ensures.stops (c.args.file.now ∷ []) []
    (keygen_says c.args.height c.args.width c.args.file.now) (inl refl))
