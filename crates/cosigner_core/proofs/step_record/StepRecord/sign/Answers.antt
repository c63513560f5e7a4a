use Rattle.std.proofs.Common.{arith}
use Rattle.tls_wire.proofs.Hashes.{each_hash}
use Rattle.cosigner_core.proofs.step_record.StepRecord.sign.Goals as goal

pub returns-clause-fits : goal.returns-clause-fits
returns-clause-fits c = record {
  short_word = c.ranges.index.fits;
  start_word = c.ranges.start.fits;
  end_word = c.ranges.end.fits;
  sized = c.told-hash;
  all_hashes = (each_hash c.args.proof.now c.told-proof, omega arith);
}
