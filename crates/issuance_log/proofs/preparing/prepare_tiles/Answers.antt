use Rattle.std.proofs.Common.{ℕ, ◌<◌, ◌≤◌, Err, IfErr, arith, subst}
use Rattle.std.specs.Prelude.{Bool}
use Rattle.byte_formats.proofs.Values.{err_is}
use Rattle.issuance_log.specs.Refusals.{TilesKeepTo, full_size, tile_refusal}
use Rattle.issuance_log.specs.declared.error.LogError.TheVariants.{Memory}
use Rattle.issuance_log.proofs.Answering.{tiles_not_old, tiles_old}
use Rattle.issuance_log.proofs.preparing.prepare_tiles.Goals as goal

pub returns-then-size-tiled-clause-refused : goal.returns-then-size-tiled-clause-refused
returns-then-size-tiled-clause-refused c = λ broken end.
    let v = c.args.numbers.now.view in
    let old : full_size v ≤ v.tiled = omega arith in
    tiles_old v broken end old

pub returns-in_err-body-clause-refused : goal.returns-in_err-body-clause-refused
returns-in_err-body-clause-refused c =
    let v = c.args.numbers.now.view in
    let above : v.tiled < full_size v = omega arith in
    subst (λ r. IfErr r (λ why. (broken : Bool) (end : ℕ)
    → TilesKeepTo (tile_refusal v broken end) (Err why)))
    (err_is c.from_residual.result Memory c.from_residual.ensures.1)
    (λ broken end. tiles_not_old v broken end above)
