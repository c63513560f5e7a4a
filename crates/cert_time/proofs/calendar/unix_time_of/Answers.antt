use Rattle.std.proofs.Common.{◌≡◌, arith, sym, ap, ◌∙◌, subst, w64, ℤ, FitsSigned, to_z-of_z}
use Rattle.std.proofs.Common.{Option, Some, IfSome}
use Rattle.jiff_core.proofs.SignedLemmas.{signed_arith, signed_casts}
use Rattle.cert_time.specs.Calendar.{IsUnixTime}
use Rattle.cert_time.proofs.UnixTimes.{IsDate-exists, civil_seconds-since, civil_seconds-bound}
use Rattle.cert_time.proofs.UnixTimes.{unix_time_from-none, unix_time_from-parts}
use Rattle.cert_time.proofs.BothWays.{unix_time_from-range}
use Rattle.cert_time.proofs.calendar.unix_time_of.Goals as goal

pub returns-in_default-clause-value : goal.returns-in_default-clause-value
returns-in_default-clause-value c =
    sym (unix_time_from-none c.args.first_year c.args.civil (λ there.
    let is_date = IsDate-exists c.args.civil _ _ _ _ _ _ there (omega (arith, signed_casts))
    (omega (arith, signed_casts)) (omega (arith, signed_casts)) (omega (arith, signed_casts))
    (omega (arith, signed_casts)) (omega (arith, signed_casts)) in
    let wrong = c.in_default.ensures.succeeds.1 is_date in cc))

pub returns-clause-value : goal.returns-clause-value
returns-clause-value c =
    let dt = c.in-Ok.named in
    let is = c.in-Ok.ensures.value in
    let whole : dt.time.subsec_nanosecond ≡ 0 = omega (arith, signed_arith, is) in
    let since =
    c.as_secs.ensures ∙ civil_seconds-since dt c.epoch.result _ c.epoch.ensures whole
    c.duration_since.ensures
    in
    let fits : FitsSigned w64 c.as_secs.result = rw since (civil_seconds-bound dt) in
    ap Some (to_z-of_z fits ∙ since)
    ∙ sym (unix_time_from-parts c.args.first_year dt c.args.civil (record {
      year = omega (arith, signed_casts, is);
      month = omega (arith, signed_casts, is);
      day = omega (arith, signed_casts, is);
      hour = omega (arith, signed_casts, is);
      minute = omega (arith, signed_casts, is);
      second = omega (arith, signed_casts, is);
    }) (omega arith) (omega arith))

pub returns-clause-range : goal.returns-clause-range
returns-clause-range c = λ low.
    let P : Option ℤ → Type 0 = λ o. IfSome o IsUnixTime in
    subst P (sym (returns-clause-value c)) (unix_time_from-range c.args.first_year c.args.civil low)
