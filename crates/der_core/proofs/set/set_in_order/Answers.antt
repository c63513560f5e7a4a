use Rattle.std.proofs.Common.{sym, ◌∙◌}
use Rattle.std.proofs.lemmas.Result.{err_from_is_err_and}
use Rattle.der_core.proofs.Sets.{rises_more, rises_fails, rises_end}
use Rattle.der_core.proofs.set.set_in_order.Goals as goal

pub returns-in_err-before : goal.returns-in_err-before
returns-in_err-before c =
    let p = err_from_is_err_and c.from_residual.result c.from_residual.ensures.1 in
    rw (p.1, p.2) (rises_fails _ _ c.loop-reader.before.now c.loop-reader.reader _
    c.in_err-before.ensures.exact (sym c.is_at_end.ensures
    ∙ c.loop-reader-test.true) c.loop-reader.invariant)

pub loop-reader-preserved : goal.loop-reader-preserved
loop-reader-preserved c =
    rises_more _ _ c.loop-reader.before.now c.loop-reader.reader _ c.risen.new.reader
    c.in_ok-before.ensures.exact c.in_ok-before.ensures.forward c.loop-reader.invariant

pub returns : goal.returns
returns c = rises_end _ _ c.loop-reader.before.now c.loop-reader.reader (sym c.is_at_end.ensures
    ∙ c.loop-reader-test.false) c.loop-reader.invariant
