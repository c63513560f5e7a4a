use Rattle.der_core.proofs.Integers.{unsigned_takes, unsigned_again}
use Rattle.der_core.proofs.laws.law_numbers_decode_as_encoded.Goals as goal

pub returns-clause-read : goal.returns-clause-read
returns-clause-read c = unsigned_takes

pub returns-clause-again : goal.returns-clause-again
returns-clause-again c = unsigned_again
