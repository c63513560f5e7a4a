use Rattle.std.proofs.Common.{[], arith}
use Rattle.std.proofs.lemmas.Nat.{ones-le}
use Rattle.tree_peaks.proofs.Carries.{carries-all, carries-end, carries-more, few_ones, one_more}
use Rattle.tree_peaks.proofs.Carries.{some_ones}
use Rattle.tree_peaks.proofs.carrying.carry.Goals as goal

pub joins-init : goal.joins-init
joins-init g c = carries-all _ _ _ _ _ c.requires.count

pub overflow_sub-count : goal.overflow_sub-count
overflow_sub-count g c =
    let some = some_ones c.joins.n c.joins-test.true in
    let left = c.joins.invariant.left in
    omega arith

pub joins-preserved : goal.joins-preserved
joins-preserved g c =
    let below = c.joins.invariant.below in
    let left = c.joins.invariant.left in
    let few = ones-le 64 c.joins.n (omega arith) in
    carries-more _ _ _ _ _ _ _ _ c.joins.invariant c.joins-test.true (omega arith) [] _
    c.pair-node.ensures

pub bounds-hashes-count-2 : goal.bounds-hashes-count-2
bounds-hashes-count-2 g c =
    let below = c.joins.invariant.below in
    let left = c.joins.invariant.left in
    let few = few_ones c.joins.n c.joins-test.false (omega arith) in
    omega arith

pub returns-clause-count : goal.returns-clause-count
returns-clause-count g c =
    let left = c.joins.invariant.left in
    let ones = c.joins.invariant.ones in
    let more = one_more c.joins.n c.joins-test.false in
    omega arith

pub returns-clause-hashes : goal.returns-clause-hashes
returns-clause-hashes g c =
    let below = c.joins.invariant.below in
    let left = c.joins.invariant.left in
    let few = few_ones c.joins.n c.joins-test.false (omega arith) in
    carries-end _ _ _ _ _ _ _ _ c.joins.invariant c.joins-test.false (omega arith)
