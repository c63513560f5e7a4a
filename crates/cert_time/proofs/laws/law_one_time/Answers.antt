use Rattle.cert_time.proofs.BothWays.{time_law, time_shape}
use Rattle.cert_time.proofs.laws.law_one_time.Goals as goal

pub returns-clause-both_ways : goal.returns-clause-both_ways
returns-clause-both_ways c = time_law

pub returns-clause-shape : goal.returns-clause-shape
returns-clause-shape c = time_shape
