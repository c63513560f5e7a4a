use Rattle.std.proofs.Common.{ap, sym, ◌∙◌, arith}
use Rattle.std.proofs.lemmas.Result.{err_from_is_err_and}
use Rattle.tls_wire.specs.Anchors.{arcs_in, decimal_at}
use Rattle.tls_wire.proofs.TextLoops.{first_fails, numbers_from, numbers_fail, numbers_more}
use Rattle.tls_wire.proofs.TextLoops.{numbers_end}
use Rattle.tls_wire.proofs.dotted.arcs_of_text.Goals as goal

pub returns-in_err-first : goal.returns-in_err-first
returns-in_err-first c =
    let p = err_from_is_err_and c.from_residual.result c.from_residual.ensures.1 in
    rw (p.1, p.2) (λ other. first_fails c.args.text.now _ (ap decimal_at (sym c.new-input.ensures)
    ∙ c.in_err-first.ensures.exact))

pub loop-input-init : goal.loop-input-init
loop-input-init c =
    rw (c.in_ok-put_arc.ensures, c.new-bytes.ensures) (numbers_from c.args.text.now
    c.in_ok-first.first c.read_decimal.new.input (ap decimal_at (sym c.new-input.ensures)
    ∙ c.in_ok-first.ensures.exact))

pub returns-in_err-n : goal.returns-in_err-n
returns-in_err-n c =
    let p = err_from_is_err_and c.from_residual-in_err-n.result
    c.from_residual-in_err-n.ensures.1 in
    rw (p.1, p.2) (λ other. numbers_fail (arcs_in c.args.text.now) c.loop-input.bytes
    c.loop-input.input _ c.in_err-n.ensures.exact (omega arith) c.loop-input.invariant)

pub loop-input-preserved : goal.loop-input-preserved
loop-input-preserved c =
    rw c.in_ok-put_arc-2.ensures (numbers_more (arcs_in c.args.text.now) c.loop-input.bytes
    c.loop-input.input c.in_ok-n.n c.read_dot_decimal.new.input c.in_ok-n.ensures.exact
    c.in_ok-n.ensures.forward c.loop-input.invariant)

pub returns : goal.returns
returns c = numbers_end (arcs_in c.args.text.now) c.loop-input.bytes c.loop-input.input
    (omega arith) c.loop-input.invariant
