use Rattle.std.proofs.Common.{[], refl}
use Rattle.monitor_core.proofs.Sofar.{all_more, all_of}
use Rattle.monitor_core.specs.States.{IsHash}
use Rattle.monitor_core.proofs.writing.law_are_hashes.Goals as goal

pub loop-hash-preserved : goal.loop-hash-preserved
loop-hash-preserved c = all_more IsHash c.loop-hash.hash-index c.args.hashes.now _ []
    c.loop-hash-test.true refl c.law_is_hash.ensures c.loop-hash.invariant

pub returns : goal.returns
returns c = all_of IsHash c.loop-hash.hash-index c.args.hashes.now c.loop-hash-test.false
    c.loop-hash.invariant
