use Rattle.std.proofs.Common.{◌≡◌, ◌++◌, drop, Ok}
use Rattle.byte_formats.specs.Readings.{◌>>=◌}
use Rattle.toml.specs.View.{items_view}
use Rattle.policy_core.specs.Fields.{each_of}
use Rattle.policy_core.proofs.fields.each_of.Given as goal

-- What is read so far, and what the rest says, make the whole.
abbrev pub invariant-loop-value : goal.invariant-loop-value
invariant-loop-value g l =
    (each_of g.T.Item.says (items_view (drop l.value-index l.values)) >>= λ xs. Ok (l.items.items
    ++ xs)) ≡ each_of g.T.Item.says (items_view l.values)
