use Rattle.std.proofs.Common.{sym, ◌∙◌, arith}
use Rattle.policy_core.proofs.Items.{indices_more, indices_none}
use Rattle.policy_core.proofs.rule_fields.indices_among.Goals as goal

pub loop-value-preserved : goal.loop-value-preserved
loop-value-preserved c =
    indices_more c.args.known.now _ c.args.values.now c.loop-value.value-index c.value-item.result
    c.in-Some.place c.loop-value.indices.items c.push.new.self.items
    (omega (arith, c.loop-value-test.true)) c.value-item.is
    (sym c.in_ok-place.ensures ∙ c.in-Some.is) c.in_ok-push.ensures.items c.loop-value.invariant

pub returns-in_default : goal.returns-in_default
returns-in_default c =
    indices_none c.args.known.now _ c.args.values.now c.loop-value.value-index c.value-item.result
    c.loop-value.indices.items (omega (arith, c.loop-value-test.true)) c.value-item.is
    (sym c.in_ok-place.ensures ∙ c.in_default.is) c.loop-value.invariant
