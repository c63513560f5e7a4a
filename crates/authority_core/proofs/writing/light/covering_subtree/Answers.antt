use Rattle.std.proofs.Common.{suc, arith}
use Rattle.issuance_log.specs.Words.{view_of}
use Rattle.authority_core.proofs.Marks.{bounded, covered, strictly}
use Rattle.authority_core.proofs.writing.light.covering_subtree.Goals as goal

pub of_marks-requires-clause-rise : goal.of_marks-requires-clause-rise
of_marks-requires-clause-rise g c =
    strictly 0 (view_of c.args.log.now).size c.marks.result.now c.marks.ensures.rising

pub of_marks-requires-clause-small : goal.of_marks-requires-clause-small
of_marks-requires-clause-small g c = λ i.
    let few = bounded 0 (view_of c.args.log.now).size c.marks.result.now
    c.marks.ensures.rising (suc i) in
    omega (arith, few, c.law_sound.ensures.numbers.few, c.law_sound.ensures.numbers.allowed.few)

pub returns-clause-holds : goal.returns-clause-holds
returns-clause-holds g c =
    covered c.covering.result c.in_ok-landmarks.landmarks c.marks.result.now
    c.behind-log.inside.max_active (view_of c.args.log.now).size c.args.index
    c.in_ok-landmarks.ensures c.marks.ensures.rising c.covering.ensures.meaning
