use Rattle.std.proofs.Common.{Err, sym, ap, ◌∙◌}
use Rattle.cert_fields.proofs.Many.{reaches_from, reaches_more, reaches_fails, reaches_end}
use Rattle.cert_fields.proofs.Many.{reaches_repeated}
use Rattle.cert_fields.proofs.extensions.extension_list.Goals as goal

pub loop-count-init : goal.loop-count-init
loop-count-init c = reaches_from _ _ c.fork-list.ensures

pub loop-count-preserved : goal.loop-count-preserved
loop-count-preserved c =
    reaches_more _ _ c.loop-count.count c.loop-count.reader _ c.next_extension.new.reader
    c.in_default.ensures.exact c.in_default.ensures.forward c.loop-count.invariant

pub returns-in-Err-clause-err : goal.returns-in-Err-clause-err
returns-in-Err-clause-err c =
    reaches_fails _ _ c.loop-count.count c.loop-count.reader c.in-Err.fault c.in-Err.ensures.exact
    (sym c.is_at_end.ensures ∙ c.loop-count-test.true) c.loop-count.invariant
    ∙ ap (λ fault. Err fault) (sym c.first_fault.ensures)

pub returns-then-has_repeats-clause-err : goal.returns-then-has_repeats-clause-err
returns-then-has_repeats-clause-err c =
    reaches_repeated _ _ c.loop-count.count c.loop-count.reader c.loop-count.invariant
    (sym c.has_repeats.ensures ∙ c.if-has_repeats.true)

pub returns-else-has_repeats-clause-ok : goal.returns-else-has_repeats-clause-ok
returns-else-has_repeats-clause-ok c =
    reaches_end _ _ c.loop-count.count c.loop-count.reader (sym c.is_at_end.ensures
    ∙ c.loop-count-test.false) c.loop-count.invariant (sym c.has_repeats.ensures
    ∙ c.if-has_repeats.false)
