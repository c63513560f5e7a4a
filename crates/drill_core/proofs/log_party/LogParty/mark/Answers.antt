use Rattle.drill_core.proofs.log_party.LogParty.mark.Goals as goal

pub returns : goal.returns
returns g c = record { state = c.asked.ensures.state; stops = c.asked.ensures.stops }
