use Rattle.drill_core.specs.Parties.{log_seen}
use Rattle.drill_core.proofs.ListedItems.{is_item}
use Rattle.drill_core.proofs.listed.read_item.Goals as goal

pub returns-in-Ok-clause-item : goal.returns-in-Ok-clause-item
returns-in-Ok-clause-item g c = is_item g.H.TreeHash.hash (log_seen c.args.log.now) c.args.index
    c.entry.new.entry c.entry.new.spki c.law_sound.ensures.items c.requires c.in-Ok.ensures.item
