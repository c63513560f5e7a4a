-- A validity as contracts see it.
use Rattle.cert_time.specs.Calendar.{Period}
use Rattle.cert_time.specs.declared.validity.Validity.{Validity}

-- Its two times alone.
abbrev pub period : Validity → Period
period v = record { not_before = v.not_before; not_after = v.not_after }
