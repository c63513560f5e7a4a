use Rattle.std.proofs.Common.{suc, arith}
use Rattle.issuance_log.specs.Words.{view_of}
use Rattle.authority_core.proofs.Marks.{bounded, strictly}
use Rattle.mtc_authority.proofs.marks.landmarks_in.Goals as goal

pub of_marks-requires-clause-rise : goal.of_marks-requires-clause-rise
of_marks-requires-clause-rise g c =
    strictly 0 (view_of c.args.log.now).size c.marks.result.now c.marks.ensures.rising

pub of_marks-requires-clause-small : goal.of_marks-requires-clause-small
of_marks-requires-clause-small g c = λ i.
    let few = bounded 0 (view_of c.args.log.now).size c.marks.result.now
    c.marks.ensures.rising (suc i) in
    omega (arith, few, c.law_sound.ensures.numbers.few, c.law_sound.ensures.numbers.allowed.few)
