use Rattle.cosigner_core.proofs.Forms.{subtree_again, subtree_form, subtree_only}
use Rattle.cosigner_core.proofs.laws.law_subtree_requests_decode_as_encoded.Goals as goal

pub returns-clause-form : goal.returns-clause-form
returns-clause-form c = subtree_form

pub returns-clause-only : goal.returns-clause-only
returns-clause-only c = subtree_only

pub returns-clause-again : goal.returns-clause-again
returns-clause-again c = subtree_again
