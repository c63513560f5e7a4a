use Rattle.std.proofs.Common.{◌≡◌, ◌++◌, take}
use Rattle.std.specs.List.{flat_map}
use Rattle.monitor_core.specs.Written.{peak_text}
use Rattle.monitor_core.proofs.writing.put_peaks.Given as goal

-- The peaks so far stand after the bytes.
abbrev pub invariant-loop-peak : goal.invariant-loop-peak
invariant-loop-peak l = l.out ≡ l.initial.out ++ flat_map peak_text (take l.peak-index l.peaks)
