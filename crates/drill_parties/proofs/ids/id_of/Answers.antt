use Rattle.drill_parties.proofs.AnchorIds.{id_is}
use Rattle.drill_parties.proofs.ids.id_of.Goals as goal

pub returns-in-Ok : goal.returns-in-Ok
returns-in-Ok c = id_is c.args.last c.in-Ok.id c.in-Ok.ensures
