use Rattle.std.proofs.Common.{arith}
use Rattle.tree_cache.proofs.Filled.{filling-more, filling-none}
use Rattle.tree_cache.proofs.rows.fill_above.Goals as goal

pub loop-number-init : goal.loop-number-init
loop-number-init g c =
    filling-none g.H.TreeHash.hash c.args.row.now c.args.from c.args.above.now
    c.requires.capacity.long

pub push_up-requires : goal.push_up-requires
push_up-requires g c =
    let within = c.requires.capacity.within in
    record {
      count = c.loop-number.number;
      capacity = c.requires.capacity.capacity;
      long = c.loop-number.invariant.long;
      holds = c.loop-number.invariant.holds c.requires.capacity.capacity
          c.requires.capacity.holds;
      below = omega arith;
    }

pub loop-number-preserved : goal.loop-number-preserved
loop-number-preserved g c =
    let order = c.loop-number.auto.number in
    let gone = c.requires.gone in
    let within = c.requires.within in
    filling-more g.H.TreeHash.hash c.args.row.now c.args.from c.loop-number.number
    c.pair_at.result c.args.above.now c.loop-number.above c.push_up.new.rows
    c.loop-number.invariant (omega arith) (omega arith) c.pair_at.ensures c.push_up.ensures
