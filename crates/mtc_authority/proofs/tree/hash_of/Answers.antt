use Rattle.issuance_log.specs.Words.{modelled_by_both}
use Rattle.mtc_authority.proofs.Asked.{hash_modelled}
use Rattle.mtc_authority.proofs.tree.hash_of.Goals as goal

pub returns-clause-hash : goal.returns-clause-hash
returns-clause-hash g c = hash_modelled g.H.TreeHash.hash c.args.start c.args.end
    (modelled_by_both c.args.log.now) c.node_of.result c.node_of.ensures.value
