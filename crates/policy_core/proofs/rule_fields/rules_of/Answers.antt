use Rattle.toml.specs.View.{items_view}
use Rattle.policy_core.proofs.FileRules.{each_is}
use Rattle.policy_core.proofs.rule_fields.rules_of.Goals as goal

pub returns-clause-rules : goal.returns-clause-rules
returns-clause-rules c =
    rw (← c.as_slice.ensures.value, c.from_vec.ensures)
    (each_is c.as_slice.result.now (items_view c.in_ok-values.values.now)
    c.in_ok-each_rule.field-0.items c.in_ok-each_rule.ensures.ok)
