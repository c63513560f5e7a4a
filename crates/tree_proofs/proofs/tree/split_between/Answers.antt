use Rattle.std.proofs.Common.{◌+◌, ap}
use Rattle.tree_proofs.proofs.Aligned.{halves_valid}
use Rattle.tree_proofs.proofs.tree.split_between.Goals as goal

pub returns : goal.returns
returns c =
    halves_valid c.args.start _ c.args.end c.requires.valid c.requires.more
    (ap (λ k. c.args.start + k) c.split.ensures.value)
