use Rattle.mirror_core.specs.Words.{mirror_by_both}
use Rattle.mirror_cosigner.proofs.Hashed.{proof_modelled}
use Rattle.mirror_cosigner.proofs.hashing.proof_of.Goals as goal

pub returns-in-Ok-clause-proof : goal.returns-in-Ok-clause-proof
returns-in-Ok-clause-proof g c =
    proof_modelled g.H.TreeHash.hash c.args.start c.args.end c.args.size
    (mirror_by_both c.args.mirror.now) c.consist.new.out c.in-Ok.ensures.proof
