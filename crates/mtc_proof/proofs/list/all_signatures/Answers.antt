use Rattle.std.proofs.Common.{◌≡◌, ◌≢◌, length, ne_eqb, arith, eq-eqb}
use Rattle.std.proofs.lemmas.Result.{err_from_is_err_and}
use Rattle.byte_formats.proofs.Loops.{walks_from, walks_more, walks_fails, walks_end}
use Rattle.mtc_proof.specs.Reading.{mtc_signature_at}
use Rattle.mtc_proof.proofs.list.all_signatures.Goals as goal

pub loop-cursor-init : goal.loop-cursor-init
loop-cursor-init c = walks_from mtc_signature_at _

pub loop-cursor-preserved : goal.loop-cursor-preserved
loop-cursor-preserved c =
    walks_more mtc_signature_at _ c.loop-cursor.cursor _ c.signature.new.cursor
    c.in_ok-signature.ensures.exact c.in_ok-signature.ensures.forward c.loop-cursor.invariant

pub returns-in_err-signature-clause-err : goal.returns-in_err-signature-clause-err
returns-in_err-signature-clause-err c =
    let some : length c.loop-cursor.cursor.rest ≢ 0 = omega arith in
    let p = err_from_is_err_and c.from_residual.result c.from_residual.ensures.1 in
    rw (p.1, p.2) (walks_fails mtc_signature_at _ c.loop-cursor.cursor _
    c.in_err-signature.ensures.exact (ne_eqb (length c.loop-cursor.cursor.rest) 0 some)
    c.loop-cursor.invariant)

pub returns-clause-ok : goal.returns-clause-ok
returns-clause-ok c =
    let none : length c.loop-cursor.cursor.rest ≡ 0 = omega arith in
    walks_end mtc_signature_at _ c.loop-cursor.cursor
    (eq-eqb (length c.loop-cursor.cursor.rest) 0 none) c.loop-cursor.invariant
