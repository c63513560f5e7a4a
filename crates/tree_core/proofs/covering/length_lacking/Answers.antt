use Rattle.std.proofs.Common.{◌∙◌, ap, arith}
use Rattle.tree_core.proofs.Covers.{lacking, lacking_within}
use Rattle.tree_core.specs.Cover.{bit_length}
use Rattle.tree_core.proofs.covering.length_lacking.Goals as goal

pub returns-clause-length : goal.returns-clause-length
returns-clause-length c =
    c.bit_length.ensures ∙ ap bit_length (lacking c.args.number c.args.split
    (omega arith) c.requires)

pub returns-clause-within : goal.returns-clause-within
returns-clause-within c =
    let within = lacking_within c.args.number c.args.split in
    let length = c.bit_length.ensures ∙ ap bit_length (lacking c.args.number c.args.split
    (omega arith) c.requires) in
    omega arith
