use Rattle.monitor_core.proofs.taking.Run.new.Goals as goal

pub returns-clause-none : goal.returns-clause-none
returns-clause-none g c = c.new-growth.ensures c.args.watch
