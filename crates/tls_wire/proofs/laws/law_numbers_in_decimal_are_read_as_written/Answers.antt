use Rattle.tls_wire.proofs.Decimals.{decimal_is_number, number_is_decimal}
use Rattle.tls_wire.proofs.laws.law_numbers_in_decimal_are_read_as_written.Goals as goal

pub returns-clause-again : goal.returns-clause-again
returns-clause-again c = decimal_is_number

pub returns-clause-read : goal.returns-clause-read
returns-clause-read c = number_is_decimal
