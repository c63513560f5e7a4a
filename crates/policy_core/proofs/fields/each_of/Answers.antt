use Rattle.std.proofs.Common.{sym, arith}
use Rattle.policy_core.proofs.Items.{each_more}
use Rattle.policy_core.proofs.fields.each_of.Goals as goal

pub loop-value-preserved : goal.loop-value-preserved
loop-value-preserved g c =
    each_more g.T.Item.says _ c.args.values.now c.loop-value.value-index c.value-item.result
    c.in_ok-of.field-0 c.loop-value.items.items c.push.new.self.items
    (omega (arith, c.loop-value-test.true)) c.value-item.is (sym c.in_ok-of.ensures)
    c.in_ok-push.ensures.items c.loop-value.invariant
