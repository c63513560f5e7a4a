use Rattle.std.proofs.Common.{arith}
use Rattle.tiled_items.proofs.machine.take_record.Goals as goal

pub overflow_sub-count : goal.overflow_sub-count
overflow_sub-count g c =
    let rules = g.R.ItemRules in
    let size = g.met.R.ItemRules.next_size g.H.TreeHash.hash (rules.view c.args.numbers.now)
    (rules.view c.take.new.self) c.args.body.now c.in-Ok.ensures.takes in
    let before = c.size-first.ensures.value in
    let after = c.size.ensures.value in
    omega (arith, size, before, after)
