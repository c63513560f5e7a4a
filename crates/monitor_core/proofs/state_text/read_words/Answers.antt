use Rattle.monitor_core.proofs.PeakLines.{peaks_count}
use Rattle.monitor_core.proofs.state_text.read_words.Goals as goal

pub of-requires : goal.of-requires
of-requires c =
    let many = peaks_count _ _ _ c.in_ok-read_peaks.ensures.ok in
    cc
