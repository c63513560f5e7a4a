use Rattle.std.proofs.Common.{◌∙◌, arith}
use Rattle.std.proofs.lemmas.Nat.{leading_length}
use Rattle.tree_core.proofs.Covers.{bit_length_unique}
use Rattle.tree_core.proofs.covering.bit_length.Goals as goal

pub returns : goal.returns
returns c =
    let count = leading_length 64 c.args.number (omega arith) in
    let rest = count.1 in
    omega arith ∙ bit_length_unique c.args.number count.0 count.2 count.3
