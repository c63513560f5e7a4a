use Rattle.tree_proofs.proofs.Aligned.{first_valid}
use Rattle.issuance_log.specs.Words.{modelled_by_both}
use Rattle.mtc_authority.proofs.Asked.{root_modelled}
use Rattle.mtc_authority.proofs.tree.root_of.Goals as goal

pub hash_of-requires-clause-valid : goal.hash_of-requires-clause-valid
hash_of-requires-clause-valid g c = first_valid c.args.size c.requires.some

pub returns-clause-hash : goal.returns-clause-hash
returns-clause-hash g c =
    root_modelled g.H.TreeHash.hash c.args.size (modelled_by_both c.args.log.now)
    c.hash_of.result c.hash_of.ensures.hash
