use Rattle.std.proofs.Common.{length, ap, arith, rules}
use Rattle.std.proofs.lemmas.Result.{on_ok_weaker}
use Rattle.tree_cache.proofs.Grows.{grown-row, grown-same, half-below}
use Rattle.tree_cache.proofs.Pushes.{counted-above, counted-row}
use Rattle.tree_cache.proofs.Grows.{holds-more, holds-none}
use Rattle.tree_cache.specs.Rows.{HaveCount}
use Rattle.tree_cache.proofs.rows.+grow.Goals as goal

pub returns-in-None-clause-grown : goal.returns-in-None-clause-grown
returns-in-None-clause-grown t c = grown-same c.args.rows.now

pub returns-in-None-clause-holds : goal.returns-in-None-clause-holds
returns-in-None-clause-holds t c =
    holds-none c.args.rows.now c.args.capacity c.in-None.ensures.cases c.requires.small

pub returns-in_err-reserve-in-Some-clause-grown : goal.returns-in_err-reserve-in-Some-clause-grown
returns-in_err-reserve-in-Some-clause-grown t c =
    grown-row c.args.rows.now c.in-Some.row.now c.reserve.new.self c.in-Some.above.now
    c.in-Some.above.now c.in-Some.ensures.cases.0 c.reserve.ensures.gone
    c.reserve.ensures.hashes c.reserve.ensures.kept (grown-same c.in-Some.above.now)

pub returns-in_ok-reserve-in-Some-clause-grown : goal.returns-in_ok-reserve-in-Some-clause-grown
returns-in_ok-reserve-in-Some-clause-grown t c =
    grown-row c.args.rows.now c.in-Some.row.now c.reserve.new.self c.in-Some.above.now
    c.grow.new.rows c.in-Some.ensures.cases.0 c.reserve.ensures.gone c.reserve.ensures.hashes
    c.reserve.ensures.kept c.grow.ensures.grown

pub returns-in_ok-reserve-in-Some-clause-holds : goal.returns-in_ok-reserve-in-Some-clause-holds
returns-in_ok-reserve-in-Some-clause-holds t c =
    let same = ap length c.reserve.ensures.hashes in
    let gone = c.reserve.ensures.gone in
    let more = c.in_ok-reserve-in-Some.ensures.spare in
    on_ok_weaker c.grow.result
    (holds-more c.reserve.new.self c.grow.new.rows c.args.capacity (omega arith))
    c.grow.ensures.holds

pub count-count-requires : goal.count-count-requires
count-count-requires t c =
    counted-row c.args.rows.now c.in-Some.row.now c.in-Some.above.now c.in-Some.ensures.cases.0
    c.requires.counted

pub grow-requires : goal.grow-requires
grow-requires t c =
    let half = half-below c.args.capacity c.args.rows.now c.in-Some.row.now c.in-Some.above.now
    c.in-Some.ensures.cases.0 c.requires.small in
    let counted : HaveCount c.in-Some.above.now =
    counted-above c.args.rows.now c.in-Some.row.now c.in-Some.above.now
    c.in-Some.ensures.cases.0 c.requires.counted in
    search rules
