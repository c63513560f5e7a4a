use Rattle.tls_wire.proofs.Hashes.{each_hash}
use Rattle.quarrel_core.proofs.strings.law_are_whole.Goals as goal

pub returns : goal.returns
returns c = each_hash c.args.proof.now c.told-proof
