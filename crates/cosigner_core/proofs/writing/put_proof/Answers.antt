use Rattle.std.proofs.Common.{arith}
use Rattle.tls_wire.proofs.Hashes.{each_hash}
use Rattle.cosigner_core.proofs.writing.put_proof.Goals as goal

pub returns-clause-sized : goal.returns-clause-sized
returns-clause-sized c = (each_hash c.args.proof.now c.told-proof, omega arith)
