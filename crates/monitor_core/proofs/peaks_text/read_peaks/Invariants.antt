use Rattle.std.proofs.Common.{◌≡◌}
use Rattle.monitor_core.specs.Reading.{peaks_in}
use Rattle.monitor_core.proofs.PeakLines.{with_later}
use Rattle.monitor_core.proofs.peaks_text.read_peaks.Given as goal

-- The peaks so far and those that are left make the whole.
abbrev pub invariant-peaks : goal.invariant-peaks
invariant-peaks l =
    with_later l.peaks.items (peaks_in l.left l.rest) ≡ peaks_in l.fn.count l.fn.text

abbrev pub decreases-peaks : goal.decreases-peaks
decreases-peaks l = l.left
