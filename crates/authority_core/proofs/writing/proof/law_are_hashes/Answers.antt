use Rattle.std.proofs.Common.{arith}
use Rattle.tls_wire.proofs.Hashes.{each_hash}
use Rattle.authority_core.proofs.writing.proof.law_are_hashes.Goals as goal

pub returns : goal.returns
returns c = (each_hash c.args.path.now c.told-path, omega arith)
