use Rattle.issuance_log.specs.Staying.{stays_both}
use Rattle.drill_core.proofs.tree.root_and_proof.Goals as goal

pub returns-clause-stays : goal.returns-clause-stays
returns-clause-stays g c =
    stays_both c.args.log.now c.root_of.new.log c.proof_from.new.log
    c.root_of.ensures.stays c.proof_from.ensures

pub returns-in_err-proof-clause-stays : goal.returns-in_err-proof-clause-stays
returns-in_err-proof-clause-stays g c =
    stays_both c.args.log.now c.root_of.new.log c.proof_from.new.log
    c.root_of.ensures.stays c.proof_from.ensures
