use Rattle.std.proofs.Common.{◌∙◌, arith}
use Rattle.der_core.proofs.Integers.{plain_contents, value_of_bytes}
use Rattle.der_core.proofs.writing.put_unsigned.Goals as goal

pub returns-clause-ok : goal.returns-clause-ok
returns-clause-ok c =
    let found = c.fewest-contents.ensures in
    let same = plain_contents c.fewest-contents.result.now c.args.value found.bytes found.some
    found.positive found.fewest (found.same
    ∙ rw c.to_be_bytes.ensures (value_of_bytes c.args.value (omega arith))) (omega arith) in
    rw (← same) c.put.ensures.ok
