use Rattle.std.proofs.Common.{◌+◌, ◌-◌, length, drop, ap, arith}
use Rattle.std.proofs.lemmas.List.{length-drop, length-take}
use Rattle.tree_cache.proofs.Fulls.{gone-level, kept-roots, level-inside, level-long}
use Rattle.tree_cache.proofs.kept.Rows.hashes.Goals as goal

pub unreachable-requires : goal.unreachable-requires
unreachable-requires c =
    let inside = level-inside c.args.level (c.args.from + c.args.count) c.args.self.now
    c.level.ensures.sound (omega arith) c.requires.within in
    let outside = c.in-None.ensures.none in
    omega arith

pub part-requires-clause-gone : goal.part-requires-clause-gone
part-requires-clause-gone c =
    let kept = c.requires.kept in
    let gone = gone-level c.args.level c.args.self.now c.in-Some.row.now
    c.in-Some.ensures.some in
    omega arith

pub part-requires-clause-within : goal.part-requires-clause-within
part-requires-clause-within c =
    level-long c.args.level (c.args.from + c.args.count) c.args.self.now c.in-Some.row.now
    c.in-Some.ensures.some c.level.ensures.sound c.requires.within

pub returns-clause-size : goal.returns-clause-size
returns-clause-size c =
    let row = c.in-Some.row.now in
    let kept = c.requires.kept in
    let gone = gone-level c.args.level c.args.self.now c.in-Some.row.now
    c.in-Some.ensures.some in
    let many = level-long c.args.level (c.args.from + c.args.count) c.args.self.now
    c.in-Some.row.now c.in-Some.ensures.some c.level.ensures.sound c.requires.within in
    let all = ap length c.part.ensures in
    let prefix = length-take c.args.count (drop (c.args.from - row.gone) row.kept) in
    let back = length-drop (c.args.from - row.gone) row.kept in
    omega arith

pub returns-clause-each : goal.returns-clause-each
returns-clause-each c = λ h leaves are place below.
    let kept = c.requires.kept in
    let gone = gone-level c.args.level c.args.self.now c.in-Some.row.now
    c.in-Some.ensures.some in
    kept-roots h c.args.level leaves c.args.self.now c.in-Some.row.now c.args.from c.args.count
    place c.part.result.now c.in-Some.ensures.some c.part.ensures are (omega arith)
    c.requires.within below
