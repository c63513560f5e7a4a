use Rattle.std.proofs.Common.{arith}
use Rattle.landmarks.proofs.Coverings.{least_above, none_least}
use Rattle.landmarks.proofs.list.Landmarks.least_above.Goals as goal

pub returns-then-above-eq0-clause-meaning : goal.returns-then-above-eq0-clause-meaning
returns-then-above-eq0-clause-meaning c = λ number. none_least c.args.self.now c.args.index
    c.above-above.result number c.above-above.ensures.known c.above-above.ensures.count
    (λ some. absurd (omega (arith, c.if-above-eq0.true)))

pub returns-then-above-active_count-clause-meaning :
    goal.returns-then-above-active_count-clause-meaning
returns-then-above-active_count-clause-meaning c = λ number. none_least c.args.self.now
    c.args.index c.above-above.result number c.above-above.ensures.known
    c.above-above.ensures.count (λ some. omega (arith, c.active_count.ensures.count))

pub returns-clause-meaning : goal.returns-clause-meaning
returns-clause-meaning c = rw c.last.ensures.number (least_above c.args.self.now c.args.index
    c.above-above.result c.above-above.ensures.known c.above-above.ensures.count
    c.if-above-eq0.false
    (omega (arith, c.active_count.ensures.count, c.above-above.ensures.known.some)))
