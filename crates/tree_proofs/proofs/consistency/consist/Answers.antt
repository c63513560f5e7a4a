use Rattle.std.proofs.Common.{arith}
use Rattle.tree_proofs.proofs.Aligned.{first_valid}
use Rattle.tree_proofs.proofs.Fulls.{some_in}
use Rattle.tree_proofs.proofs.consistency.consist.Goals as goal

pub consist_in-requires-clause-valid : goal.consist_in-requires-clause-valid
consist_in-requires-clause-valid g c =
    let some = some_in c.args.start c.args.end c.requires.valid in
    first_valid c.args.size (omega arith)

pub consist_in-requires-clause-some : goal.consist_in-requires-clause-some
consist_in-requires-clause-some g c = some_in c.args.start c.args.end c.requires.valid
