use Rattle.der_core.proofs.Elements.{one_element}
use Rattle.der_core.proofs.laws.law_elements_have_one_encoding.Goals as goal

pub returns : goal.returns
returns c = one_element
