use Rattle.std.proofs.Common.{◌≡◌, ◌+◌, List, ℕ, length, ap, ◌∙◌, arith}
use Rattle.issuance_log.specs.Records.{settings_record}
use Rattle.issuance_log.specs.Settings.{Settings}
use Rattle.issuance_log.proofs.Encoded.{length-settings, log_created}
use Rattle.issuance_log.proofs.creation.pack.Goals as goal

length_of : (s : Settings) (body : List ℕ) → body ≡ settings_record s
    → length body ≡ 10 + length s.id
length_of s body is = ap length is ∙ length-settings s

pub pack-requires-clause-some : goal.pack-requires-clause-some
pack-requires-clause-some c =
    let size = length_of c.args.settings.now c.as_slice.result.now (c.as_slice.ensures
    ∙ c.in_ok-record.ensures.value) in
    omega arith

pub pack-requires-clause-few : goal.pack-requires-clause-few
pack-requires-clause-few c =
    let size = length_of c.args.settings.now c.as_slice.result.now (c.as_slice.ensures
    ∙ c.in_ok-record.ensures.value) in
    let short = c.in_ok-record.ensures.id.short in
    omega arith

pub returns-clause-valid : goal.returns-clause-valid
returns-clause-valid c = λ h. log_created h c.args.settings.now c.settings_record.ensures.id
    c.settings_record.ensures.allowed

pub returns-in_err-record-clause-valid : goal.returns-in_err-record-clause-valid
returns-in_err-record-clause-valid c =
    λ h. log_created h c.args.settings.now c.settings_record.ensures.id
    c.settings_record.ensures.allowed
