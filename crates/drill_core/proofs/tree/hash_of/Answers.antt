use Rattle.std.proofs.Common.{◌∙◌, sym, ap}
use Rattle.issuance_log.proofs.Leaves.{part_root}
use Rattle.issuance_log.specs.Folds.{LogView}
use Rattle.drill_core.specs.Parties.{log_seen}
use Rattle.drill_core.proofs.OnlyRead.{nodes_stay}
use Rattle.drill_core.proofs.Numbers.{within_by}
use Rattle.drill_core.proofs.tree.hash_of.Goals as goal

pub node_of-requires-clause-valid : goal.node_of-requires-clause-valid
node_of-requires-clause-valid g c = c.requires.valid

pub node_of-requires-clause-within : goal.node_of-requires-clause-within
node_of-requires-clause-within g c =
    within_by _ _ _ c.requires.within (ap (λ (v : LogView). v.size) c.law_sound.ensures.view)

pub returns-in-Ok-clause-hash : goal.returns-in-Ok-clause-hash
returns-in-Ok-clause-hash g c =
    c.in-Ok.ensures.value
    ∙ sym (part_root g.H.TreeHash.hash (log_seen c.args.log.now).entries c.args.start c.args.end)

pub returns-in-Ok-clause-stays : goal.returns-in-Ok-clause-stays
returns-in-Ok-clause-stays g c = nodes_stay _ _ c.node_of.ensures.stays

pub returns-in-Err-clause-stays : goal.returns-in-Err-clause-stays
returns-in-Err-clause-stays g c = nodes_stay _ _ c.node_of.ensures.stays
