use Rattle.std.proofs.lemmas.Result.{IfOk-weaker}
use Rattle.quarrel_core.proofs.Verdicts.{carried_proof, checks_there, shown_by}
use Rattle.quarrel_core.proofs.quarrelling.pair_of.Goals as goal

pub two_proofs-requires-clause-first : goal.two_proofs-requires-clause-first
two_proofs-requires-clause-first g c =
    let carried = carried_proof g.H.TreeHash.hash c.args.start c.args.end c.args.node.now _ _ _
    c.in-Proof.proof c.as_slice.result.now c.in-Proof.is c.as_slice.ensures c.in_ok-proof.ensures in
    checks_there g.H.TreeHash.hash c.args.start c.args.end c.args.node.now c.held_by-held.result _ _
    _ c.held_by-held.ensures carried

pub two_proofs-requires-clause-second : goal.two_proofs-requires-clause-second
two_proofs-requires-clause-second g c =
    checks_there g.H.TreeHash.hash c.args.start c.args.end c.args.other.now c.held_by-held.result _
    _ _ c.held_by-held.ensures c.requires.second

pub returns-in-Proof : goal.returns-in-Proof
returns-in-Proof g c =
    let carried = carried_proof g.H.TreeHash.hash c.args.start c.args.end c.args.node.now _ _ _
    c.in-Proof.proof c.as_slice.result.now c.in-Proof.is c.as_slice.ensures c.in_ok-proof.ensures in
    IfOk-weaker c.two_proofs.result _ _
    (λ found is. shown_by g.H.TreeHash.hash c.args.start c.args.end c.args.node.now
    c.args.other.now c.held_by-held.result _ _ c.as_slice.result.now c.args.shown.now found
    c.held_by-held.ensures c.requires.differ carried c.requires.second is)
    c.two_proofs.ensures
