use Rattle.std.proofs.Common.{◌≡◌, get_or, sym, arith}
use Rattle.monitor_core.proofs.PeakLines.{peak_found}
use Rattle.monitor_core.proofs.peaks_text.read_peak.Goals as goal

pub returns : goal.returns
returns c =
    let first : get_or c.args.text.now 0 0 ≡ 0x20 = omega arith in
    peak_found c.args.text.now c.in_ok-hash.hash c.if-text-lt65.false first
    (sym c.in_ok-hash.ensures)
