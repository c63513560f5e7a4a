use Rattle.std.proofs.Common.{◌∙◌}
use Rattle.drill_parties.proofs.AnchorIds.{copy_is}
use Rattle.drill_parties.proofs.cosigner_party.CosignerParty.id.Goals as goal

pub returns-in-Ok : goal.returns-in-Ok
returns-in-Ok g c =
    copy_is c.as_bytes.result.now c.in-Ok.id c.in-Ok.ensures ∙ c.as_bytes.ensures.value
    ∙ c.id.ensures
