use Rattle.byte_formats.proofs.Digits.{value-digits, digits-value}
use Rattle.byte_formats.proofs.law_numbers_have_one_encoding.Goals as goal

pub returns-clause-again : goal.returns-clause-again
returns-clause-again c = value-digits

pub returns-clause-one : goal.returns-clause-one
returns-clause-one c = digits-value
