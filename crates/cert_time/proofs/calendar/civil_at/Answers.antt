use Rattle.std.proofs.Common.{◌≡◌, ℕ, ◌<◌, arith, refl, w8, w16, w64, ℤ, pos, ◌+ℤ◌, ◌*ℤ◌, ◌≤ℤ◌}
use Rattle.std.proofs.Common.{FitsSigned, Result, Ok, to_z, of_z, to_z-of_z, nat_abs}
use Rattle.std.specs.Prelude.{IfOk}
use Rattle.jiff_core.specs.declared.civil.datetime.DateTime.{DateTime}
use Rattle.jiff_core.specs.declared.error.Error.{Error}
use Rattle.jiff_core.specs.DateTime.{civil_nanos, civil_seconds}
use Rattle.jiff_core.proofs.CalendarLemmas.{days_in_month_bounds}
use Rattle.jiff_core.proofs.SignedLemmas.{signed_arith}
use Rattle.cert_time.specs.Calendar.{IsUnixTime}
use Rattle.cert_time.proofs.UnixTimes.{civil_seconds-nanos, year-from_1950, civil_of-parts}
use Rattle.cert_time.proofs.UnixTimes.{nonnegative}
use Rattle.cert_time.proofs.calendar.civil_at.Goals as goal

-- the library's date and time is the one that many seconds after its 1970-01-01T00:00:00
seconds_are : (z nanos : ℤ) (epoch dt : DateTime) (r : Result DateTime Error) → IsUnixTime z
    → civil_nanos epoch ≡ pos 0 → nanos ≡ to_z w64 (of_z w64 z) *ℤ pos 1_000_000_000
    → IfOk r (λ d. civil_nanos d ≡ civil_nanos epoch +ℤ nanos) → r ≡ Ok dt → civil_seconds dt ≡ z
seconds_are z nanos epoch dt r h zero n after is =
    let fits : FitsSigned w64 z = omega (arith, signed_arith) in
    let later = rw is at after in
    civil_seconds-nanos z dt (omega (arith, signed_arith, zero, later, rw (to_z-of_z fits) at n))

year_fits : (dt : DateTime) → FitsSigned w16 dt.date.year
year_fits dt = omega (arith, signed_arith, dt.date.year_in)

year_is : (dt : DateTime) (z : ℤ) → pos 1950 ≤ℤ dt.date.year → z ≡ dt.date.year
    → dt.date.year ≡ pos (nat_abs (to_z w16 (of_z w16 z)))
year_is dt z from e =
    rw (e, to_z-of_z (year_fits dt)) (nonnegative _ (omega (arith, signed_arith, from)))

part_is : (z : ℤ) (n : ℕ) → z ≡ pos n → n < 128 → n ≡ nat_abs (to_z w8 (of_z w8 z))
part_is z n e below =
    let fits : FitsSigned w8 (pos n) = omega (arith, signed_arith, below) in
    rw (e, to_z-of_z fits) refl

pub overflow_cast-result : goal.overflow_cast-result
overflow_cast-result c =
    let dt = c.unwrap-named.result in
    let is = seconds_are c.args.seconds _ _ dt _ c.requires c.epoch.ensures c.from_secs.ensures
    c.checked_add.ensures.value c.unwrap-named.ensures in
    let from = year-from_1950 c.args.seconds dt c.requires is in
    let year = nonnegative dt.date.year (omega (arith, signed_arith)) in
    rw (c.year.ensures, to_z-of_z (year_fits dt)) (
      omega (arith, signed_arith),
      omega (
        arith,
        signed_arith,
        year,
        dt.date.year_in,
      ),
    )

pub returns-clause-value : goal.returns-clause-value
returns-clause-value c =
    let dt = c.unwrap-named.result in
    let is = seconds_are c.args.seconds _ _ dt _ c.requires c.epoch.ensures c.from_secs.ensures
    c.checked_add.ensures.value c.unwrap-named.ensures in
    let from = year-from_1950 c.args.seconds dt c.requires is in
    let days = days_in_month_bounds dt.date.year dt.date.month in
    civil_of-parts c.args.seconds dt _ c.requires is (record {
      year = year_is dt _ from c.year.ensures;
      month = part_is _ _ c.month.ensures (omega (arith, dt.date.month_in));
      day = part_is _ _ c.day.ensures (omega (arith, dt.date.day_in, days));
      hour = part_is _ _ c.hour.ensures (omega (arith, dt.time.hour_in));
      minute = part_is _ _ c.minute.ensures (omega (arith, dt.time.minute_in));
      second = part_is _ _ c.second.ensures (omega (arith, dt.time.second_in));
    })
