use Rattle.std.proofs.Common.{◌-◌, ◌^◌, ◌≤◌, arith}
use Rattle.std.proofs.Math.Nat.{pow-le-pow_right}
use Rattle.tile_store.proofs.inside.start_of.Goals as goal

pub overflow_sub-result-2 : goal.overflow_sub-result-2
overflow_sub-result-2 c =
    let low : 9 - c.args.level ≤ 9 = omega arith in
    let most : 2 ^ (9 - c.args.level) ≤ 2 ^ 9 = pow-le-pow_right {n = 2} (omega arith) low in
    omega arith
