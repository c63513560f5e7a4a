use Rattle.std.proofs.Common.{[], ◌∷◌, inl, refl, ap, sym}
use Rattle.std.proofs.lemmas.Result.{err_from_is_err_and}
use Rattle.mtc_command.proofs.Inputs.{bytes_read}
use Rattle.mtc_command.proofs.Served.{answered}
use Rattle.mtc_command.specs.Steps.{Outcome}
use Rattle.mtc_relying.specs.Compared.{claim_says}
use Rattle.mtc_relying.proofs.comparing.shown.Goals as goal

pub returns-in_err-bytes : goal.returns-in_err-bytes
returns-in_err-bytes g c =
    let p = err_from_is_err_and c.from_residual.result c.from_residual.ensures.1 in
    rw (p.1, p.2) (c.in_err-bytes.ensures.stops (c.args.entries.now ∷ []) []
    (claim_says g.H.TreeHash.hash c.args.entries.now c.args.claim.now) (inl refl))
