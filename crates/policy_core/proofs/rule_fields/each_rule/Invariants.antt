use Rattle.std.proofs.Common.{◌≡◌, ◌++◌, drop, Ok}
use Rattle.byte_formats.specs.Readings.{◌>>=◌}
use Rattle.toml.specs.View.{items_view}
use Rattle.policy_core.specs.Fields.{each_of}
use Rattle.policy_core.specs.CosignerFields.{rule_data}
use Rattle.policy_core.proofs.rule_fields.each_rule.Given as goal

-- What is read so far, and what the rest says, make the whole.
abbrev pub invariant-loop-value : goal.invariant-loop-value
invariant-loop-value l =
    (each_of (rule_data l.known) (items_view (drop l.value-index l.values)) >>= λ xs.
    Ok (l.rules.items ++ xs)) ≡ each_of (rule_data l.known) (items_view l.values)
