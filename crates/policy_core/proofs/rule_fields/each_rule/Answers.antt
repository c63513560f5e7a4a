use Rattle.std.proofs.Common.{arith}
use Rattle.policy_core.specs.CosignerFields.{rule_data}
use Rattle.policy_core.proofs.Items.{each_more}
use Rattle.policy_core.proofs.rule_fields.each_rule.Goals as goal

pub loop-value-preserved : goal.loop-value-preserved
loop-value-preserved c =
    each_more (rule_data c.args.known.now) _ c.args.values.now c.loop-value.value-index
    c.value-item.result c.in_ok-rule_of.field-0 c.loop-value.rules.items c.push.new.self.items
    (omega (arith, c.loop-value-test.true)) c.value-item.is c.in_ok-rule_of.ensures
    c.in_ok-push.ensures.items c.loop-value.invariant
