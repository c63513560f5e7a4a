use Rattle.std.proofs.Common.{sym, ◌∙◌}
use Rattle.cert_fields.proofs.Twice.{repeated_permuted}
use Rattle.cert_fields.proofs.repeats.sort_block.Goals as goal

pub returns-clause-repeats : goal.returns-clause-repeats
returns-clause-repeats c =
    c.has_equal_neighbours.ensures
    ∙ sym (repeated_permuted c.args.block.now c.sort_unstable.new.self
    c.sort_unstable.ensures.permutation)
