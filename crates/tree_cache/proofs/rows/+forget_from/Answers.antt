use Rattle.std.proofs.Common.{◌+◌, length, sym, ap, subst, rules}
use Rattle.tree_cache.proofs.Forgets.{can-above, can-row, gone-forgotten, holds-forgotten}
use Rattle.tree_cache.proofs.Forgets.{long-forgotten, same-forgotten}
use Rattle.tree_cache.specs.Tiled.{CanForget, CanForgetAll, HasForgotten}
use Rattle.tree_cache.proofs.rows.+forget_from.Goals as goal

pub let_go-requires : goal.let_go-requires
let_go-requires t c =
    subst (λ g. CanForget g c.in-Some.row.now) (sym c.nodes_in_tiles.ensures)
    (can-row c.args.size c.args.level c.args.rows.now c.in-Some.row.now c.in-Some.above.now
    c.in-Some.ensures.cases.0 c.requires.can)

pub forget_from-requires : goal.forget_from-requires
forget_from-requires t c =
    let can : CanForgetAll c.args.size (c.args.level + 1) c.in-Some.above.now =
    can-above c.args.size c.args.level c.args.rows.now c.in-Some.row.now c.in-Some.above.now
    c.in-Some.ensures.cases.0 c.requires.can in
    let count = ap length c.in-Some.ensures.cases.0 in
    let small = c.requires.small in
    search rules

pub returns-in-Some-clause-same : goal.returns-in-Some-clause-same
returns-in-Some-clause-same t c =
    same-forgotten c.args.size c.args.level c.args.rows.now c.in-Some.row.now c.let_go.new.self
    c.in-Some.above.now c.forget_from.new.rows c.in-Some.ensures.cases.0 c.requires.can
    (subst (λ g. HasForgotten g c.in-Some.row.now c.let_go.new.self) c.nodes_in_tiles.ensures
    c.let_go.ensures) c.forget_from.ensures.same

pub returns-in-Some-clause-long : goal.returns-in-Some-clause-long
returns-in-Some-clause-long t c =
    long-forgotten c.args.size c.args.level c.args.rows.now c.in-Some.row.now c.let_go.new.self
    c.in-Some.above.now c.forget_from.new.rows c.in-Some.ensures.cases.0 c.requires.can
    (subst (λ g. HasForgotten g c.in-Some.row.now c.let_go.new.self) c.nodes_in_tiles.ensures
    c.let_go.ensures) c.forget_from.ensures.long

pub returns-in-Some-clause-holds : goal.returns-in-Some-clause-holds
returns-in-Some-clause-holds t c =
    holds-forgotten c.args.size c.args.level c.args.rows.now c.in-Some.row.now c.let_go.new.self
    c.in-Some.above.now c.forget_from.new.rows c.in-Some.ensures.cases.0 c.requires.can
    (subst (λ g. HasForgotten g c.in-Some.row.now c.let_go.new.self) c.nodes_in_tiles.ensures
    c.let_go.ensures) c.forget_from.ensures.holds

pub returns-in-Some-clause-gone : goal.returns-in-Some-clause-gone
returns-in-Some-clause-gone t c =
    gone-forgotten c.args.size c.args.level c.args.rows.now c.in-Some.row.now c.let_go.new.self
    c.in-Some.above.now c.forget_from.new.rows c.in-Some.ensures.cases.0
    (subst (λ g. HasForgotten g c.in-Some.row.now c.let_go.new.self) c.nodes_in_tiles.ensures
    c.let_go.ensures) c.forget_from.ensures.gone
