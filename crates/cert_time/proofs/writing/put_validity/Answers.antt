use Rattle.std.proofs.Common.{◌∙◌, ap, arith, w64, ℤ, FitsSigned, to_z-of_z}
use Rattle.jiff_core.proofs.SignedLemmas.{signed_arith}
use Rattle.cert_time.specs.Calendar.{civil_of, IsUnixTime}
use Rattle.cert_time.specs.Times.{validity_element, time_tag, time_contents}
use Rattle.cert_time.proofs.writing.put_validity.Goals as goal

fits : (z : ℤ) → IsUnixTime z → FitsSigned w64 z
fits z h = omega (arith, signed_arith)

pub returns-else-is_err-clause-ok : goal.returns-else-is_err-clause-ok
unfolding validity_element time_tag time_contents
returns-else-is_err-clause-ok c =
    let v = c.args.validity.now in
    let before =
    c.civil_at-not_before.ensures.value ∙ ap civil_of (to_z-of_z (fits _ v.begins))
    in
    let after =
    c.civil_at-not_after.ensures.value ∙ ap civil_of (to_z-of_z (fits _ v.ends))
    in
    rw (← before, ← after) c.put_times-written.ensures.ok
