use Rattle.std.proofs.Common.{sym, ◌∙◌, ap}
use Rattle.byte_formats.proofs.Steps.{ok_is}
use Rattle.tls_wire.proofs.AnchorForm.{anchor_again}
use Rattle.tls_wire.specs.Anchors.{anchor_of}
use Rattle.tls_wire.specs.declared.fault.AnchorBytesError.{AnchorBytesError}
use Rattle.monitor_core.proofs.states.copy_of.Goals as goal

pub returns-in-Ok : goal.returns-in-Ok
returns-in-Ok c =
    ok_is AnchorBytesError c.in-Ok.copy c.args.id.now (sym c.in-Ok.ensures
    ∙ ap anchor_of c.as_bytes.ensures.value
    ∙ anchor_again c.args.id.now c.as_bytes.ensures.anchor)
