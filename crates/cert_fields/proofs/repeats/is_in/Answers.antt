use Rattle.std.proofs.Common.{◌∙◌}
use Rattle.cert_fields.proofs.Twice.{searched}
use Rattle.cert_fields.proofs.repeats.is_in.Goals as goal

pub returns : goal.returns
returns c =
    c.is_ok.ensures.value
    ∙ searched c.args.block.now c.args.identifier c.binary_search.result c.requires
    c.binary_search.ensures.bound c.binary_search.ensures.position
