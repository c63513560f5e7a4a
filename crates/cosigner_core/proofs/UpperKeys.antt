-- What the upper one-time keys of a cosigner of two levels sign.
use Rattle.std.proofs.Common.{ℕ, ◌%◌, ◌/◌, ◌^◌, Option, ap, ◌∙◌}
use Rattle.byte_formats.specs.Types.{Text}
use Rattle.lms_core.specs.Heights.{height}
use Rattle.lms_core.specs.declared.heights.LmsType.{LmsType}
use Rattle.hss_keys.specs.Keys.{signature_with, upper_part}
use Rattle.hss_keys.proofs.Newest.{upper_is}
use Rattle.mtc_proof.specs.Inputs.{signed_text}
use Rattle.cosigner_core.specs.Folds.{CosignerState}
use Rattle.cosigner_core.specs.Signatures.{SignsInItsTree}

pub its_tree : (s : CosignerState) (low : LmsType) → SignsInItsTree s low
its_tree s low two start end hash =
    let top = s.key.key.top in
    let q : ℕ = s.key.next in
    let message : Text = signed_text s.id s.log start end hash in
    ap (λ (o : Option LmsType). upper_part top (signature_with top o q message)) two
    ∙ upper_is top low (q / 2 ^ height low) (q % 2 ^ height low) message
