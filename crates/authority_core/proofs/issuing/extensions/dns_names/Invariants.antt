use Rattle.std.proofs.Common.{◌≡◌, ◌++◌, drop}
use Rattle.authority_core.specs.Issuing.{dns_names}
use Rattle.authority_core.proofs.issuing.extensions.dns_names.Given as goal

-- the names so far, and those that are left, make the whole
abbrev pub invariant-loop-name : goal.invariant-loop-name
invariant-loop-name l = l.out ++ dns_names (drop l.name-index l.names) ≡ dns_names l.names
