-- An anchor id that is read again is the same.
use Rattle.std.proofs.Common.{◌≡◌, Ok, sym, ap, ◌∙◌}
use Rattle.byte_formats.specs.Types.{Text}
use Rattle.byte_formats.proofs.Steps.{ok_is}
use Rattle.tls_wire.specs.Anchors.{anchor_of}
use Rattle.tls_wire.specs.Arcs.{IsAnchorId}
use Rattle.tls_wire.specs.declared.fault.AnchorBytesError.{AnchorBytesError}
use Rattle.tls_wire.proofs.AnchorForm.{anchor_again}

pub id_again : (id text copy : Text) → text ≡ id → IsAnchorId id → anchor_of text ≡ Ok copy
    → id ≡ copy
id_again id text copy same is read =
    ok_is AnchorBytesError id copy (sym (anchor_again id is) ∙ sym (ap anchor_of same) ∙ read)
