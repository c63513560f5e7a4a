use Rattle.der_core.proofs.Fields.{rising_form}
use Rattle.der_core.proofs.laws.law_sets_decode_as_encoded.Goals as goal

pub returns : goal.returns
returns c = rising_form
