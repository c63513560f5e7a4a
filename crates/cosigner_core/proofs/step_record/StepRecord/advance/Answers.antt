use Rattle.std.proofs.Common.{arith}
use Rattle.tls_wire.proofs.Hashes.{each_hash}
use Rattle.cosigner_core.proofs.step_record.StepRecord.advance.Goals as goal

pub returns-clause-fits : goal.returns-clause-fits
returns-clause-fits c = record {
  word = c.ranges.size.fits;
  sized = c.told-root;
  all_hashes = (each_hash c.args.proof.now c.told-proof, omega arith);
}
