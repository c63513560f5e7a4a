use Rattle.std.proofs.Common.{◌^◌}
use Rattle.std.specs.Int.{w8, w16, w32, w64}
use Rattle.tls_wire.proofs.Numbers.{wide8, wide16, wide32, wide64, number_form}
use Rattle.tls_wire.proofs.laws.law_numbers_decode_as_encoded.Goals as goal

pub returns-clause-one_byte : goal.returns-clause-one_byte
returns-clause-one_byte c = number_form w8 (2 ^ 8) wide8

pub returns-clause-two_bytes : goal.returns-clause-two_bytes
returns-clause-two_bytes c = number_form w16 (2 ^ 16) wide16

pub returns-clause-four_bytes : goal.returns-clause-four_bytes
returns-clause-four_bytes c = number_form w32 (2 ^ 32) wide32

pub returns-clause-eight_bytes : goal.returns-clause-eight_bytes
returns-clause-eight_bytes c = number_form w64 (2 ^ 64) wide64
