use Rattle.std.proofs.Common.{◌+◌, ◌/◌, ◌^◌, ◌<◌, length-append, refl, add-one, append_assoc, arith}
use Rattle.lmots_core.specs.Strings.{concatenated}
use Rattle.lms_core.specs.Heights.{height}
use Rattle.lms_core.specs.Trees.{sibling}
use Rattle.lms_core.proofs.Indices.{div_pow, pow_half}
use Rattle.lms_core.proofs.Levels.{length-tree_value, path_node-held}
use Rattle.lms_core.proofs.climbing.put_path.Goals as goal

pub loop-i-preserved : goal.loop-i-preserved
unfolding concatenated
loop-i-preserved c =
    let inv = c.loop-i.invariant in
    let below : c.loop-i.i < height c.args.key.now.lms =
    rw c.height-i-end.ensures at c.loop-i-test.true in
    let node = path_node-held c.args.key.now c.args.nodes.now c.args.q c.loop-i.i c.loop-i.place
    c.requires.held below inv.2 inv.3 inv.4 in
    let size = length-tree_value c.args.key.now c.loop-i.i
    (sibling ((2 ^ height c.args.key.now.lms + c.args.q) / 2 ^ c.loop-i.i)) in
    let half = pow_half (height c.args.key.now.lms) c.loop-i.i below in (
      rw (c.append.ensures, c.sibling.ensures, node, inv.0, add-one c.loop-i.i, append_assoc) refl,
      rw (c.append.ensures, c.sibling.ensures, node, length-append) (omega (arith, inv.1, size)),
      rw (inv.2, div_pow) refl,
      omega (arith, half, inv.3),
      omega (arith, half, inv.4),
    )
