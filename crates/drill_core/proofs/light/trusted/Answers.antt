use Rattle.std.proofs.Common.{ap}
use Rattle.byte_formats.specs.Types.{Hash}
use Rattle.drill_core.proofs.Numbers.{within_by}
use Rattle.drill_core.proofs.light.trusted.Goals as goal

pub hash_of-requires-clause-within : goal.hash_of-requires-clause-within
hash_of-requires-clause-within g c =
    within_by _ _ _ c.if-size_of-span.false c.size_of.ensures.value

pub returns-clause-hash : goal.returns-clause-hash
returns-clause-hash g c =
    ap (λ (x : Hash). record { start = c.args.span.start; end = c.args.span.end; hash = x })
    c.in_ok-hash.ensures.hash
