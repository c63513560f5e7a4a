use Rattle.std.proofs.Common.{arith}
use Rattle.tls_wire.proofs.Hashes.{each_hash}
use Rattle.mtc_proof.proofs.writing.put_path.Goals as goal

pub returns-clause-sized : goal.returns-clause-sized
returns-clause-sized c = (each_hash c.args.path.now c.told-path, omega arith)
