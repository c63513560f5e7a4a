use Rattle.std.proofs.Common.{arith, eq-eqb, ne_eqb}
use Rattle.std.proofs.lemmas.Result.{err_from_is_err_and}
use Rattle.byte_formats.proofs.Loops.{walks_more, walks_fails, walks_end}
use Rattle.tls_wire.specs.Anchors.{arc_at}
use Rattle.tls_wire.proofs.AnchorForm.{arcs_fail, arcs_end}
use Rattle.tls_wire.proofs.arcs.read_arcs.Goals as goal

pub returns-in_err-read_arc : goal.returns-in_err-read_arc
returns-in_err-read_arc c =
    let p = err_from_is_err_and c.from_residual.result c.from_residual.ensures.1 in
    rw (p.1, p.2) (arcs_fail c.args.bytes.now _ (walks_fails arc_at _ c.loop-input.input _
    c.in_err-read_arc.ensures.exact (ne_eqb _ 0 (omega arith)) c.loop-input.invariant))

pub loop-input-preserved : goal.loop-input-preserved
loop-input-preserved c = walks_more arc_at _ c.loop-input.input _ c.read_arc.new.input
    c.in_ok-read_arc.ensures.exact c.in_ok-read_arc.ensures.forward c.loop-input.invariant

pub returns : goal.returns
returns c = arcs_end c.args.bytes.now c.loop-input.input
    (walks_end arc_at _ c.loop-input.input (eq-eqb _ 0 (omega arith)) c.loop-input.invariant)
