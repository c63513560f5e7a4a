use Rattle.std.proofs.Common.{ℕ, ◌<◌, ◌≤◌, Err, IfErr, arith, subst}
use Rattle.std.specs.Prelude.{Bool}
use Rattle.byte_formats.proofs.Values.{err_is}
use Rattle.mirror_core.specs.declared.error.MirrorError.TheVariants.{Memory}
use Rattle.mirror_core.proofs.preparing.prepare_tiles.Goals as goal
use Rattle.mirror_core.proofs.Answering.{tiles_not_old, tiles_old}
use Rattle.mirror_core.specs.Refusals.{MirrorTilesKeepTo, full_mirror_size, mirror_tile_refusal}

pub returns-then-size-tiled-clause-refused : goal.returns-then-size-tiled-clause-refused
returns-then-size-tiled-clause-refused c = λ broken end.
    let v = c.args.numbers.now in
    let old : full_mirror_size v ≤ v.tiled = omega arith in
    tiles_old v broken end old

pub returns-in_err-body-clause-refused : goal.returns-in_err-body-clause-refused
returns-in_err-body-clause-refused c =
    let v = c.args.numbers.now in
    let above : v.tiled < full_mirror_size v = omega arith in
    subst (λ r. IfErr r (λ why. (broken : Bool) (end : ℕ)
    → MirrorTilesKeepTo (mirror_tile_refusal v broken end) (Err why)))
    (err_is c.from_residual.result Memory c.from_residual.ensures.1)
    (λ broken end. tiles_not_old v broken end above)
