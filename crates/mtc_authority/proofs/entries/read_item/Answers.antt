use Rattle.issuance_log.specs.Words.{modelled_state, view_of}
use Rattle.mtc_authority.proofs.Items.{item_modelled}
use Rattle.mtc_authority.proofs.entries.read_item.Goals as goal

pub returns-in-Ok-clause-item : goal.returns-in-Ok-clause-item
returns-in-Ok-clause-item g c = item_modelled g.H.TreeHash.hash (modelled_state c.args.log.now)
    (view_of c.args.log.now) c.args.index c.entry.new.entry c.entry.new.spki c.requires
    c.law_sound.ensures.items c.law_sound.ensures.view c.in-Ok.ensures.item
