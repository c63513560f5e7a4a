use Rattle.std.proofs.Common.{ap, arith}
use Rattle.tree_proofs.proofs.Aligned.{first_valid}
use Rattle.tree_proofs.specs.declared.checkpoint.Checkpoint.{Checkpoint}
use Rattle.mirror_core.specs.Words.{mirror_by_both}
use Rattle.mirror_cosigner.proofs.Hashed.{none_modelled}
use Rattle.mirror_cosigner.proofs.hashing.root_of.Goals as goal

pub hash_of-requires-clause-valid : goal.hash_of-requires-clause-valid
hash_of-requires-clause-valid g c = first_valid c.args.size (omega (arith, c.if-size-eq0.false))

pub returns-then-size-eq0-clause-hash : goal.returns-then-size-eq0-clause-hash
returns-then-size-eq0-clause-hash g c =
    none_modelled g.H.TreeHash.hash c.args.size (mirror_by_both c.args.mirror.now)
    c.empty-empty.result.root c.if-size-eq0.true
    (ap (λ (e : Checkpoint). e.root) c.empty-empty.ensures)
