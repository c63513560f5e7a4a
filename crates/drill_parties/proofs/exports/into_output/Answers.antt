use Rattle.std.proofs.Common.{◌∙◌, List, length, sym, ap}
use Rattle.byte_formats.specs.Types.{Text}
use Rattle.cosigner_core.specs.Counts.{indices_of}
use Rattle.drill_parties.specs.CosignerViews.{IsDiskOf}
use Rattle.drill_parties.proofs.Outputs.{output}
use Rattle.drill_parties.proofs.exports.into_output.Goals as goal

pub returns-clause-disk : goal.returns-clause-disk
returns-clause-disk g c = output g.H.TreeHash.hash c.args.party c.signatures.new.party
    c.in_ok-disk.disk c.signatures.new.party.stands c.in_ok-count.ensures.same
    (c.in_ok-disk.ensures.same ∙ c.into_disk-disk.ensures.disk) c.in_ok-disk.ensures.fails_none

pub returns-clause-count : goal.returns-clause-count
returns-clause-count g c =
    let out : IsDiskOf g.H.TreeHash.hash c.args.party c.in_ok-disk.disk =
    output g.H.TreeHash.hash c.args.party c.signatures.new.party c.in_ok-disk.disk
    c.signatures.new.party.stands c.in_ok-count.ensures.same
    (c.in_ok-disk.ensures.same ∙ c.into_disk-disk.ensures.disk) c.in_ok-disk.ensures.fails_none in
    c.in_ok-count.ensures.count
    ∙ ap (λ (list : List Text). length (indices_of list)) (sym out.records)
