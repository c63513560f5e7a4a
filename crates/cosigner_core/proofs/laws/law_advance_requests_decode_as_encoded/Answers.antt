use Rattle.cosigner_core.proofs.Forms.{advance_again, advance_form, advance_only}
use Rattle.cosigner_core.proofs.laws.law_advance_requests_decode_as_encoded.Goals as goal

pub returns-clause-form : goal.returns-clause-form
returns-clause-form c = advance_form

pub returns-clause-only : goal.returns-clause-only
returns-clause-only c = advance_only

pub returns-clause-again : goal.returns-clause-again
returns-clause-again c = advance_again
