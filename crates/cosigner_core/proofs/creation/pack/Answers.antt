use Rattle.std.proofs.Common.{◌≡◌, ◌+◌, ◌≤◌, List, ℕ, length, Option, Some, None, ap, ◌∙◌, arith}
use Rattle.lms_core.specs.declared.heights.LmsType.{LmsType}
use Rattle.cosigner_core.specs.Records.{cosigner_record, low_length}
use Rattle.cosigner_core.specs.declared.settings.CosignerSettings.{CosignerSettings}
use Rattle.cosigner_core.proofs.Encoded.{cosigner_created, length-cosigner}
use Rattle.cosigner_core.proofs.creation.pack.Goals as goal

length_of : (s : CosignerSettings) (secret body : List ℕ) → body ≡ cosigner_record s secret
    → length body ≡ 11 + length s.id + length s.log + length secret + low_length s.low
length_of s secret body is = ap length is ∙ length-cosigner s secret

low_short : (low : Option LmsType) → low_length low ≤ 4
low_short None = omega arith
low_short (Some low) = omega arith

pub pack-requires-clause-some : goal.pack-requires-clause-some
pack-requires-clause-some c =
    let size = length_of c.args.settings.now c.args.secret.now c.as_slice.result.now
    (c.as_slice.ensures ∙ c.in_ok-record.ensures.value) in
    omega arith

pub pack-requires-clause-few : goal.pack-requires-clause-few
pack-requires-clause-few c =
    let size = length_of c.args.settings.now c.args.secret.now c.as_slice.result.now
    (c.as_slice.ensures ∙ c.in_ok-record.ensures.value) in
    let id = c.in_ok-record.ensures.fits.id.short in
    let log = c.in_ok-record.ensures.fits.log.short in
    let secret = c.in_ok-record.ensures.fits.sized in
    let low = low_short c.args.settings.now.low in
    omega arith

pub returns-clause-valid : goal.returns-clause-valid
returns-clause-valid c = λ h. cosigner_created h c.args.settings.now c.args.secret.now
    c.cosigner_record.ensures.fits

pub returns-in_err-record-clause-valid : goal.returns-in_err-record-clause-valid
returns-in_err-record-clause-valid c =
    λ h. cosigner_created h c.args.settings.now c.args.secret.now c.cosigner_record.ensures.fits
