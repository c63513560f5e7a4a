use Rattle.std.proofs.Common.{sym}
use Rattle.cert_fields.specs.Views.{parts}
use Rattle.mtc_proof.specs.Views.{proof_parts}
use Rattle.world_core.proofs.Premises.{was_judged}
use Rattle.drill_core.proofs.audits.judged_in.Goals as goal

pub returns-clause-judged : goal.returns-clause-judged
returns-clause-judged g c = was_judged g.H.TreeHash.hash c.args.bytes.now c.args.store.now _
    c.in-Ok.accepted (parts c.in-Ok-parse.cert) (proof_parts c.in-Ok-read_proof.proof)
    (λ i. (c.type_inv.bytes i).fits) (sym c.in-Ok.ensures) c.in-Ok-parse.ensures.exact
    c.in-Ok-read_proof.ensures.exact

pub returns-clause-accepted : goal.returns-clause-accepted
returns-clause-accepted g c = sym c.in-Ok.ensures

pub returns-clause-read : goal.returns-clause-read
returns-clause-read g c = c.in-Ok-parse.ensures.exact
