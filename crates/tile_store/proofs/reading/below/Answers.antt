use Rattle.std.proofs.Common.{◌+◌, ◌-◌, ◌*◌, ◌%◌, ◌^◌, ◌≤◌, sym, subst, arith}
use Rattle.tile_store.proofs.NodeValues.{below-within}
use Rattle.tree_cache.proofs.Forgets.{one-shifted}
use Rattle.tile_store.proofs.reading.below.Goals as goal

pub returns-clause-within : goal.returns-clause-within
returns-clause-within c =
    let level = c.args.level in
    let place = c.args.place in
    let wide = one-shifted (8 - level % 8) (omega arith) in
    let narrow = one-shifted (level % 8) (omega arith) in
    subst (λ w. place % (1 * 2 ^ (8 - level % 8) % 18446744073709551616) * w + w ≤ 256)
    (sym narrow)
    (subst (λ m. place % m * 2 ^ (level % 8) + 2 ^ (level % 8) ≤ 256) (sym wide)
    (below-within level place))
