use Rattle.std.proofs.Common.{append_assoc, arith}
use Rattle.mtc_drill.specs.Summary.{summary_text}
use Rattle.mtc_drill.proofs.summary.summary.Goals as goal

pub returns : goal.returns
unfolding summary_text
returns c = grind (arith, append_assoc)
