use Rattle.std.proofs.Common.{◌≡◌, ◌+◌, length, ap, ◌∙◌, arith}
use Rattle.byte_formats.specs.Types.{Text}
use Rattle.mirror_core.specs.Records.{mirror_record}
use Rattle.mirror_core.proofs.Encoded.{length-mirror}
use Rattle.mirror_core.proofs.Made.{mirror_created}
use Rattle.mirror_core.proofs.creation.pack.Goals as goal

length_of : (id body : Text) → body ≡ mirror_record id → length body ≡ 2 + length id
length_of id body is = ap length is ∙ length-mirror id

pub pack-requires-clause-some : goal.pack-requires-clause-some
pack-requires-clause-some c =
    let size = length_of c.args.log.now c.as_slice.result.now (c.as_slice.ensures
    ∙ c.in_ok-record.ensures.value) in
    omega arith

pub pack-requires-clause-few : goal.pack-requires-clause-few
pack-requires-clause-few c =
    let size = length_of c.args.log.now c.as_slice.result.now (c.as_slice.ensures
    ∙ c.in_ok-record.ensures.value) in
    let short = c.in_ok-record.ensures.id.short in
    omega arith

pub returns-clause-valid : goal.returns-clause-valid
returns-clause-valid c = λ h. mirror_created h c.args.log.now c.mirror_record.ensures.id

pub returns-in_err-record-clause-valid : goal.returns-in_err-record-clause-valid
returns-in_err-record-clause-valid c =
    λ h. mirror_created h c.args.log.now c.mirror_record.ensures.id
