use Rattle.std.proofs.Common.{ap, sym, ◌∙◌, arith}
use Rattle.tls_wire.specs.Anchors.{decimal_at}
use Rattle.tls_wire.proofs.AnchorTexts.{none_counted, count_from, count_fails, count_large}
use Rattle.tls_wire.proofs.AnchorTexts.{count_more, count_end}
use Rattle.tls_wire.proofs.TextLoops.{first_fails}
use Rattle.tls_wire.proofs.dotted.is_dotted.Goals as goal

pub returns-in-Err : goal.returns-in-Err
returns-in-Err c = none_counted c.args.text.now _ (first_fails c.args.text.now _
    (ap decimal_at (sym c.new-input.ensures) ∙ c.in-Err.ensures.exact))

pub loop-count-init : goal.loop-count-init
loop-count-init c =
    rw c.arc_length-count.ensures.exact (count_from c.args.text.now c.in-Ok.n
    c.read_decimal.new.input (ap decimal_at (sym c.new-input.ensures) ∙ c.in-Ok.ensures.exact))

pub returns-then-left-eq0 : goal.returns-then-left-eq0
returns-then-left-eq0 c = count_end c.args.text.now c.loop-count.count c.loop-count.input
    (omega arith) (omega arith) c.loop-count.invariant

pub returns-in-Err-read_dot_decimal : goal.returns-in-Err-read_dot_decimal
returns-in-Err-read_dot_decimal c = count_fails c.args.text.now c.loop-count.count
    c.loop-count.input _ c.in-Err-read_dot_decimal.ensures.exact (omega arith)
    c.loop-count.invariant

pub loop-count-preserved : goal.loop-count-preserved
loop-count-preserved c =
    rw c.arc_length-count-in-Ok-read_dot_decimal.ensures.exact (count_more c.args.text.now
    c.loop-count.count c.loop-count.input c.in-Ok-read_dot_decimal.n c.read_dot_decimal.new.input
    c.in-Ok-read_dot_decimal.ensures.exact c.in-Ok-read_dot_decimal.ensures.forward
    c.loop-count.invariant)

pub returns : goal.returns
returns c = count_large c.args.text.now c.loop-count.count c.loop-count.input (omega arith)
    c.loop-count.invariant
