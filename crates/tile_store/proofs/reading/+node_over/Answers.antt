use Rattle.std.proofs.Common.{◌≡◌, ◌-◌, ◌*◌, ◌/◌, ◌^◌, ◌<◌, length, take, drop, sym, ◌∙◌, ap}
use Rattle.std.proofs.Common.{refl, subst, arith, rules}
use Rattle.tile_store.proofs.Halves.{IsNodeOver, half-power, node-one, node-pair}
use Rattle.tile_store.proofs.reading.+node_over.Goals as goal

pub returns-then-level-eq0 : goal.returns-then-level-eq0
returns-then-level-eq0 g t c =
    subst (IsNodeOver g.H.TreeHash.hash (2 ^ c.args.level) c.args.hashes.now)
    (sym c.copy_from_slice.ensures.after)
    (node-one g.H.TreeHash.hash c.args.level c.args.hashes.now c.if-level-eq0.true
    c.requires.size)

pub node_over-requires : goal.node_over-requires
node_over-requires g t c =
    let half = half-power c.args.level c.if-level-eq0.false in
    let size = c.requires.size in
    let prefix = ap length c.split_at.ensures.front in
    let long : length c.split_at.result.0.now ≡ 32 * 2 ^ (c.args.level - 1) = omega arith in
    let small : c.args.level - 1 < 8 = omega arith in
    search rules

pub node_over-requires-2 : goal.node_over-requires-2
node_over-requires-2 g t c =
    let half = half-power c.args.level c.if-level-eq0.false in
    let size = c.requires.size in
    let long : length c.split_at.result.1.now ≡ 32 * 2 ^ (c.args.level - 1) = omega arith in
    let small : c.args.level - 1 < 8 = omega arith in
    search rules

pub returns : goal.returns
returns g t c =
    let h = g.H.TreeHash.hash in
    let lower = c.args.level - 1 in
    let double = half-power c.args.level c.if-level-eq0.false in
    let size = c.requires.size in
    let middle : length c.args.hashes.now / 2 ≡ 32 * 2 ^ (c.args.level - 1) = omega arith in
    subst (IsNodeOver h (2 ^ c.args.level) c.args.hashes.now) (sym c.pair.ensures)
    (node-pair h (2 ^ c.args.level) (2 ^ lower) lower c.args.hashes.now c.node_over.result
    c.node_over-2.result refl double
    (subst (λ l. IsNodeOver h (2 ^ lower) l c.node_over.result)
    (c.split_at.ensures.front ∙ ap (λ n. take n c.args.hashes.now) middle) c.node_over.ensures)
    (subst (λ l. IsNodeOver h (2 ^ lower) l c.node_over-2.result)
    (c.split_at.ensures.back ∙ ap (λ n. drop n c.args.hashes.now) middle)
    c.node_over-2.ensures))
