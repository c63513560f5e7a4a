use Rattle.std.proofs.Common.{◌≡◌, ◌-◌, true, false, List, length, Option, sym, ◌∙◌, ap, arith}
use Rattle.std.specs.Prelude.{◌==◌}
use Rattle.std.proofs.lemmas.Bool.Decides.{nat_tests}
use Rattle.std.proofs.lemmas.Result.{err_from_is_err_and}
use Rattle.byte_formats.proofs.Steps.{some_or_ok}
use Rattle.byte_formats.specs.Readings.{some_or}
use Rattle.byte_formats.specs.Types.{Hash}
use Rattle.monitor_core.proofs.PeakLines.{later_end, later_fault, later_more, later_over}
use Rattle.monitor_core.specs.declared.error.TextError.TheVariants.{BadLine}
use Rattle.monitor_core.proofs.peaks_text.read_peaks.Goals as goal

pub returns-in_err-hash-clause-err : goal.returns-in_err-hash-clause-err
returns-in_err-hash-clause-err c =
    let p = err_from_is_err_and c.from_residual.result c.from_residual.ensures.1 in
    rw (p.1, p.2) (λ other. later_fault c.args.n c.peaks.left c.peaks.rest.now
    c.peaks.peaks.items _ _ c.peaks.invariant c.peaks-test.true c.in_err-hash.ensures)

pub peaks-preserved : goal.peaks-preserved
peaks-preserved c =
    sym (later_more c.peaks.left c.peaks.rest.now c.in_ok-hash.following.now c.in_ok-hash.hash
    c.peaks.peaks.items _ c.peaks-test.true (some_or_ok (BadLine c.args.n) _ _ c.in_ok-hash.ensures)
    c.in_ok-push.ensures)
    ∙ c.peaks.invariant

pub returns-then-is_empty-clause-ok : goal.returns-then-is_empty-clause-ok
returns-then-is_empty-clause-ok c =
    let none : (length c.peaks.rest.now == 0) ≡ true =
    grind (arith, nat_tests, c.if-is_empty.ensures) in
    sym c.peaks.invariant
    ∙ later_end c.peaks.left c.peaks.rest.now c.peaks.peaks.items c.peaks-test.false none

pub returns-else-is_empty-clause-err : goal.returns-else-is_empty-clause-err
returns-else-is_empty-clause-err c = λ other.
    let some : (length c.peaks.rest.now == 0) ≡ false =
    grind (arith, nat_tests, c.if-is_empty.ensures) in
    ap (λ (o : Option (List Hash)). some_or (BadLine c.args.n) o) (sym c.peaks.invariant
    ∙ later_over c.peaks.left c.peaks.rest.now c.peaks.peaks.items c.peaks-test.false some)
