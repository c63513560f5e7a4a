use Rattle.std.proofs.Common.{◌≡◌, ◌++◌, drop}
use Rattle.std.specs.Prelude.{option_map}
use Rattle.toml.specs.View.{items_view}
use Rattle.policy_core.specs.CosignerFields.{indices_among}
use Rattle.policy_core.proofs.rule_fields.indices_among.Given as goal

-- The indices so far, and those that the rest names, make the whole.
abbrev pub invariant-loop-value : goal.invariant-loop-value
invariant-loop-value l =
    option_map (λ ns. l.indices.items ++ ns)
    (indices_among l.known (items_view (drop l.value-index l.values)))
    ≡ indices_among l.known (items_view l.values)
