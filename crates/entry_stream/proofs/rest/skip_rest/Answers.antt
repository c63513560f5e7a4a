use Rattle.std.proofs.Common.{◌≡◌, ◌≤◌, ◌++◌, length, take, ◌∙◌, arith}
use Rattle.std.proofs.KnownBytes.{Consumes-trans}
use Rattle.std.proofs.lemmas.List.{length-append, length-take-le}
use Rattle.entry_stream.proofs.rest.skip_rest.Goals as goal

pub returns-then-count-limit-clause-rest : goal.returns-then-count-limit-clause-rest
returns-then-count-limit-clause-rest g c =
    (_, Consumes-trans _ _ _ _ _ c.each.invariant.gave.1 c.in_ok-count.ensures.bytes.0)

pub each-preserved : goal.each-preserved
each-preserved g c =
    let before = c.each.invariant.gave in
    let piece = take c.in_ok-count.count c.read.new.into in
    let many = before.2 in
    let size = length-take-le c.in_ok-count.count c.read.new.into c.in_ok-count.ensures.bound in
    let both = length-append before.0 piece in
    record {
      within = omega arith;
      gave = (
        before.0 ++ piece,
        Consumes-trans _ _ _ _ _ before.1 c.in_ok-count.ensures.bytes.0,
        omega arith,
      );
      count = c.in_ok-count.ensures.cause.fine ∙ c.each.invariant.count;
    }
