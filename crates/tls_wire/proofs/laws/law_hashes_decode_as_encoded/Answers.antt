use Rattle.tls_wire.proofs.Hashes.{hashes_form}
use Rattle.tls_wire.proofs.laws.law_hashes_decode_as_encoded.Goals as goal

pub returns : goal.returns
returns c = hashes_form
