use Rattle.std.proofs.Common.{◌≡◌}
use Rattle.std.specs.List.{list_any}
use Rattle.std.specs.Str.{bytes_eq}
use Rattle.mtc_library.proofs.accepting.is_for.Given as goal

-- None of the names so far is the host's.
abbrev pub invariant-loop-name : goal.invariant-loop-name
invariant-loop-name l = list_any (λ name. bytes_eq name l.host) l.name-iterator
    ≡ list_any (λ name. bytes_eq name l.host) l.initial.name-iterator
