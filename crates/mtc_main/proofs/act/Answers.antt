use Rattle.mtc_main.proofs.act.Goals as goal

pub returns : goal.returns
returns g c = rw c.from.ensures c.run.ensures
