use Rattle.std.proofs.Common.{refl, add-one}
use Rattle.lms_core.specs.Trees.{climbed}
use Rattle.lms_core.proofs.Indices.{div_pow}
use Rattle.lms_core.proofs.climbing.climb.Goals as goal

pub loop-i-preserved : goal.loop-i-preserved
unfolding climbed
loop-i-preserved c = (
  rw (
    c.parent-value.ensures,
    c.read_32-beside.ensures,
    c.loop-i.invariant.0,
    c.loop-i.invariant.1,
    add-one,
  ) refl,
  rw (c.loop-i.invariant.1, div_pow) refl,
)
