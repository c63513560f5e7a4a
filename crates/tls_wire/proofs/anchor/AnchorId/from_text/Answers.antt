use Rattle.std.proofs.Common.{arith}
use Rattle.byte_formats.specs.Offsets.{IsBytes}
use Rattle.tls_wire.proofs.AnchorForm.{arcs_in_is_id}
use Rattle.tls_wire.proofs.anchor.AnchorId.from_text.Goals as goal

pub invariant_of-result : goal.invariant_of-result
invariant_of-result c =
    let characters : IsBytes c.as_bytes-characters.result.now =
    rw c.as_bytes-characters.ensures.value (λ i. omega (arith, c.type_inv.text i)) in
    arcs_in_is_id c.as_bytes-characters.result.now c.in_ok-bytes.bytes characters
    c.in_ok-bytes.ensures (omega arith)
