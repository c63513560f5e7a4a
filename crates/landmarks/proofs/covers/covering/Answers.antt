use Rattle.landmarks.proofs.Coverings.{is_covering}
use Rattle.landmarks.proofs.covers.covering.Goals as goal

pub returns-in-Some-clause-meaning : goal.returns-in-Some-clause-meaning
returns-in-Some-clause-meaning c = is_covering c.args.l.now c.args.index c.in-Some.number
    c.subtrees.result c.part_with.result c.in-Some.ensures.meaning c.subtrees.ensures.covers
    c.part_with.ensures
