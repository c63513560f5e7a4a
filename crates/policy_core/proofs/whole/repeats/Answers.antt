use Rattle.std.proofs.Common.{◌<◌, [], length, take, sym, ◌∙◌, arith}
use Rattle.policy_core.proofs.Repeats.{repeats_after-nothing, repeats_after-end, holds_nothing}
use Rattle.policy_core.proofs.Repeats.{holds_next_one, repeats_there, repeats_later}
use Rattle.policy_core.specs.declared.lists.Trusted.{Trusted}
use Rattle.policy_core.proofs.whole.repeats.Goals as goal

none : Trusted
none = record { start = 0; end = 0; hash = [] }

pub loop-one-init : goal.loop-one-init
loop-one-init c = record {
  seen = holds_nothing c.new-seen.result c.new-seen.ensures.empty;
  whole =
      repeats_after-nothing c.args.subtrees.now;
}

pub returns : goal.returns
returns c =
    sym (repeats_after-end (take c.loop-one.one-index c.args.subtrees.now) c.args.subtrees.now
    c.loop-one.one-index (omega arith))
    ∙ c.loop-one.invariant.whole

pub returns-then-not-branch : goal.returns-then-not-branch
unfolding none
returns-then-not-branch c =
    let lt : c.loop-one.one-index < length c.args.subtrees.now = omega arith in
    repeats_there c.loop-one.seen c.args.subtrees.now c.loop-one.one-index none lt
    c.loop-one.invariant.seen c.loop-one.invariant.whole
    (sym c.in_ok-insert.ensures.added ∙ c.if-not-branch.true)

pub loop-one-preserved : goal.loop-one-preserved
unfolding none
loop-one-preserved c =
    let lt : c.loop-one.one-index < length c.args.subtrees.now = omega arith in
    record {
      seen = holds_next_one c.loop-one.seen c.insert.new.self c.args.subtrees.now
          c.loop-one.one-index none lt c.loop-one.invariant.seen c.in_ok-insert.ensures.updates;
      whole =
          repeats_later c.loop-one.seen c.args.subtrees.now c.loop-one.one-index none lt
          c.loop-one.invariant.seen c.loop-one.invariant.whole
          (sym c.in_ok-insert.ensures.added ∙ c.if-not-branch.false);
    }
