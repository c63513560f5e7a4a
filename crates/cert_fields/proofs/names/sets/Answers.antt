use Rattle.std.proofs.Common.{sym, ◌∙◌}
use Rattle.std.proofs.lemmas.Result.{err_from_is_err_and}
use Rattle.byte_formats.proofs.Loops.{walks_from, walks_more, walks_fails, walks_end}
use Rattle.cert_fields.specs.Names.{set_at}
use Rattle.cert_fields.proofs.names.sets.Goals as goal

pub loop-reader-init : goal.loop-reader-init
loop-reader-init c = walks_from set_at _

pub loop-reader-preserved : goal.loop-reader-preserved
loop-reader-preserved c =
    walks_more set_at _ c.loop-reader.reader _ c.set.new.reader c.in_ok-set.ensures.exact
    c.in_ok-set.ensures.forward c.loop-reader.invariant

pub returns-in_err-set-clause-err : goal.returns-in_err-set-clause-err
returns-in_err-set-clause-err c =
    let p = err_from_is_err_and c.from_residual.result c.from_residual.ensures.1 in
    rw (p.1, p.2) (walks_fails set_at _ c.loop-reader.reader _ c.in_err-set.ensures.exact
    (sym c.is_at_end.ensures ∙ c.loop-reader-test.true) c.loop-reader.invariant)

pub returns-clause-ok : goal.returns-clause-ok
returns-clause-ok c =
    walks_end set_at _ c.loop-reader.reader (sym c.is_at_end.ensures
    ∙ c.loop-reader-test.false) c.loop-reader.invariant
