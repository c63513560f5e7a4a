use Rattle.issuance_log.specs.Words.{modelled_by_both}
use Rattle.mtc_authority.proofs.Asked.{proof_modelled}
use Rattle.mtc_authority.proofs.tree.proof_of.Goals as goal

pub returns-in-Ok-clause-proof : goal.returns-in-Ok-clause-proof
returns-in-Ok-clause-proof g c =
    proof_modelled g.H.TreeHash.hash c.args.start c.args.end c.args.size
    (modelled_by_both c.args.log.now) c.consist.new.out c.in-Ok.ensures.proof
