use Rattle.std.proofs.Common.{◌≡◌, ◌≤◌, length, arith}
use Rattle.std.proofs.lemmas.Result.{err_from_is_err_and}
use Rattle.std.specs.Int.{w16}
use Rattle.byte_formats.specs.Offsets.{at}
use Rattle.entry_stream.proofs.Moved.{second_begins, short_begins}
use Rattle.entry_stream.proofs.next.first_item.Goals as goal

pub returns-in_err-entry-clause-inside : goal.returns-in_err-entry-clause-inside
returns-in_err-entry-clause-inside c =
    let p = err_from_is_err_and c.from_residual.result c.from_residual.ensures.1 in
    let begins = short_begins w16 (at c.args.bytes.now 0) c.in_err-entry.field-0.0
    (rw c.new-cursor.ensures at c.in_err-entry.ensures.0) in
    rw (p.1, p.2) (omega arith)

pub returns-in_err-spki-clause-inside : goal.returns-in_err-spki-clause-inside
returns-in_err-spki-clause-inside c =
    let p = err_from_is_err_and c.from_residual-in_err-spki.result
    c.from_residual-in_err-spki.ensures.1 in
    rw (p.1, p.2) (second_begins c.args.bytes.now c.in_ok-entry.entry.now _ _
    (λ i. (c.type_inv.bytes i).fits) (rw c.new-cursor.ensures at c.in_ok-entry.ensures)
    c.in_err-spki.ensures.0)
