use Rattle.std.proofs.Common.{sym, ◌∙◌}
use Rattle.std.proofs.lemmas.Result.{err_from_is_err_and}
use Rattle.byte_formats.proofs.Loops.{walks_from, walks_more, walks_fails, walks_end}
use Rattle.cert_fields.specs.AltNames.{general_name_at}
use Rattle.cert_fields.proofs.alt_names.general_name_list.Goals as goal

pub loop-reader-init : goal.loop-reader-init
loop-reader-init c = walks_from general_name_at _

pub loop-reader-preserved : goal.loop-reader-preserved
loop-reader-preserved c =
    walks_more general_name_at _ c.loop-reader.reader _ c.general_name.new.reader
    c.in_ok-general_name.ensures.exact c.in_ok-general_name.ensures.forward
    c.loop-reader.invariant

pub returns-in_err-general_name-clause-err : goal.returns-in_err-general_name-clause-err
returns-in_err-general_name-clause-err c =
    let p = err_from_is_err_and c.from_residual.result c.from_residual.ensures.1 in
    rw (p.1, p.2) (walks_fails general_name_at _ c.loop-reader.reader _
    c.in_err-general_name.ensures.exact (sym c.is_at_end.ensures
    ∙ c.loop-reader-test.true) c.loop-reader.invariant)

pub returns-clause-ok : goal.returns-clause-ok
returns-clause-ok c =
    walks_end general_name_at _ c.loop-reader.reader (sym c.is_at_end.ensures
    ∙ c.loop-reader-test.false) c.loop-reader.invariant
