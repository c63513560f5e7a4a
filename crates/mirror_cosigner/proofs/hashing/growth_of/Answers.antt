use Rattle.std.proofs.Common.{arith}
use Rattle.tree_proofs.proofs.Aligned.{first_valid}
use Rattle.mirror_cosigner.proofs.hashing.growth_of.Goals as goal

pub proof_of-requires-clause-valid : goal.proof_of-requires-clause-valid
proof_of-requires-clause-valid g c =
    let some = c.if-new-old.false.0 in
    first_valid c.args.old (omega (arith, some))
