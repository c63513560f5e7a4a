use Rattle.landmarks.proofs.Sizes.{are_landmarks}
use Rattle.landmarks.proofs.list.of_marks.Goals as goal

pub invariant_of-result : goal.invariant_of-result
invariant_of-result c = are_landmarks c.args.marks.now c.args.max_active c.in_ok-sizes.sizes.items
    c.in_ok-sizes.ensures c.requires.rise c.requires.small
