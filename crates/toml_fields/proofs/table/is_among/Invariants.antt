use Rattle.std.proofs.Common.{◌≡◌, map, drop}
use Rattle.toml_fields.specs.Tree.{has_name}
use Rattle.toml_fields.proofs.table.is_among.Given as goal

-- the names that are left give what all give
abbrev pub invariant-loop-name : goal.invariant-loop-name
invariant-loop-name l = has_name (map (λ n. n.now) (drop l.name-index l.names)) l.key
    ≡ has_name (map (λ n. n.now) l.names) l.key
