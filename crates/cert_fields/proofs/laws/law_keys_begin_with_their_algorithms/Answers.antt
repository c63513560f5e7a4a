use Rattle.cert_fields.proofs.PublicKeys.{algorithm_first, algorithm_of}
use Rattle.cert_fields.proofs.laws.law_keys_begin_with_their_algorithms.Goals as goal

pub returns : goal.returns
returns c = record { first = algorithm_first; every = algorithm_of }
