use Rattle.std.proofs.Common.{length, sym, ◌∙◌, arith}
use Rattle.byte_formats.proofs.Values.{not_zero}
use Rattle.tls_wire.proofs.AnchorForm.{arcs_only_takes}
use Rattle.tls_wire.proofs.anchor.AnchorId.from_bytes.Goals as goal

pub invariant_of-result : goal.invariant_of-result
invariant_of-result c =
    let some = not_zero (length c.args.bytes.now) (sym c.is_empty.ensures
    ∙ c.if-is_empty.false) in
    rw c.in_ok-copy.ensures (arcs_only_takes c.args.bytes.now c.in_ok-read_arcs.field-0
    (λ i. omega (arith, c.type_inv.bytes i)) some c.if-bytes-gt255.false
    c.in_ok-read_arcs.ensures)
