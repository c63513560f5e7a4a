use Rattle.tree_proofs.proofs.Checked.{PassesWhereChecks_always, ProofsCheck_always}
use Rattle.tree_proofs.proofs.Checked.{WrongLengthByProof_always}
use Rattle.tree_proofs.proofs.Made.{IsConsistencyProof_always, IsRfcProof_always}
use Rattle.tree_proofs.proofs.laws.law_consistency_proofs_check.Goals as goal

pub returns-clause-checks : goal.returns-clause-checks
returns-clause-checks c = ProofsCheck_always

pub returns-clause-passes : goal.returns-clause-passes
returns-clause-passes c = PassesWhereChecks_always

pub returns-clause-wrong_length : goal.returns-clause-wrong_length
returns-clause-wrong_length c = WrongLengthByProof_always

pub returns-clause-proof : goal.returns-clause-proof
returns-clause-proof c = IsConsistencyProof_always

pub returns-clause-rfc : goal.returns-clause-rfc
returns-clause-rfc c = IsRfcProof_always
