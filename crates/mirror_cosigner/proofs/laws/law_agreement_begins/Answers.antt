use Rattle.mirror_cosigner.proofs.Growing.{agrees_first}
use Rattle.mirror_cosigner.proofs.laws.law_agreement_begins.Goals as goal

pub returns : goal.returns
returns c = agrees_first
