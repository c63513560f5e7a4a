use Rattle.std.proofs.Common.{◌^◌}
use Rattle.std.specs.Int.{w8, w16}
use Rattle.tls_wire.proofs.Numbers.{wide8, wide16, bytes_form}
use Rattle.tls_wire.proofs.Vectors.{vector_form}
use Rattle.tls_wire.proofs.laws.law_vectors_decode_as_encoded.Goals as goal

pub returns-clause-bytes : goal.returns-clause-bytes
returns-clause-bytes c = bytes_form

pub returns-clause-short_vectors : goal.returns-clause-short_vectors
returns-clause-short_vectors c = vector_form w8 (2 ^ 8) wide8

pub returns-clause-long_vectors : goal.returns-clause-long_vectors
returns-clause-long_vectors c = vector_form w16 (2 ^ 16) wide16
