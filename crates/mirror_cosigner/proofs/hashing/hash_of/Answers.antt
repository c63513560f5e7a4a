use Rattle.mirror_core.specs.Words.{mirror_by_both}
use Rattle.mirror_cosigner.proofs.Hashed.{hash_modelled}
use Rattle.mirror_cosigner.proofs.hashing.hash_of.Goals as goal

pub returns-clause-hash : goal.returns-clause-hash
returns-clause-hash g c = hash_modelled g.H.TreeHash.hash c.args.start c.args.end
    (mirror_by_both c.args.mirror.now) c.node_of.result c.node_of.ensures.value
