use Rattle.std.proofs.Common.{[], ◌∷◌, inl, inr, refl, arith}
use Rattle.std.proofs.lemmas.Result.{err_from_is_err_and}
use Rattle.mtc_command.specs.Steps.{with_bytes}
use Rattle.mtc_command.proofs.Served.{following}
use Rattle.mtc_relying.specs.VerifyOutcome.{verify_says}
use Rattle.mtc_relying.proofs.verify.verify.Goals as goal

pub returns-in_err-bytes : goal.returns-in_err-bytes
returns-in_err-bytes g c =
    let p = err_from_is_err_and c.from_residual.result c.from_residual.ensures.1 in
    rw (p.1, p.2) (c.in_err-bytes.ensures.stops (c.args.cert.now ∷ c.args.store.now ∷ []) []
    (λ bytes. with_bytes 16777216 c.args.store.now (g.R.Room.file c.args.room.now c.args.store.now)
    (verify_says g.H.TreeHash.hash c.args.cert.now c.args.store.now c.args.now bytes)) (inl refl))

pub returns-in_err-text : goal.returns-in_err-text
returns-in_err-text g c =
    let p = err_from_is_err_and c.from_residual-in_err-text.result
    c.from_residual-in_err-text.ensures.1 in
    rw (p.1, p.2)
    (following g.R.Room g.R.Dsk.Disk _ _ _ _ _ _ _ _ _ _ c.in_ok-bytes.ensures.all_closed
    (λ is_modelled. grind (
      arith,
      c.in_ok-bytes.ensures.bytes is_modelled,
      (c.in_ok-bytes.ensures.all_closed.others c.args.store.now tt).bytes,
    )) (λ file is. is)
    (c.in_err-text.ensures.stops (c.args.cert.now ∷ c.args.store.now ∷ []) []
    (verify_says g.H.TreeHash.hash c.args.cert.now c.args.store.now c.args.now c.in_ok-bytes.bytes)
    (inr (inl refl))))
