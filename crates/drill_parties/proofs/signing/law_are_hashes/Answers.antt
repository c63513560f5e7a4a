use Rattle.std.proofs.Common.{arith}
use Rattle.tls_wire.proofs.Hashes.{each_hash}
use Rattle.drill_parties.proofs.signing.law_are_hashes.Goals as goal

pub returns-clause-one : goal.returns-clause-one
returns-clause-one c = c.told-hash

pub returns-clause-all : goal.returns-clause-all
returns-clause-all c = (each_hash c.args.proof.now c.told-proof, omega arith)
