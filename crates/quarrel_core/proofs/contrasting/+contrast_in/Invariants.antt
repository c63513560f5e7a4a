use Rattle.std.proofs.Common.{length}
use Rattle.quarrel_core.proofs.contrasting.+contrast_in.Given as goal

abbrev pub decreases-contrast_in : goal.decreases-contrast_in
decreases-contrast_in g l = length l.first.now
