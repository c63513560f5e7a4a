use Rattle.der_core.proofs.Elements.{element_takes, element_again, wanted_again}
use Rattle.der_core.proofs.laws.law_elements_decode_as_encoded.Goals as goal

pub returns-clause-read : goal.returns-clause-read
returns-clause-read c = element_takes

pub returns-clause-again : goal.returns-clause-again
returns-clause-again c = element_again

pub returns-clause-wanted : goal.returns-clause-wanted
returns-clause-wanted c = wanted_again
