use Rattle.monitor_core.proofs.WatchFiles.{WatchesAreReadAsWritten_always}
use Rattle.monitor_core.proofs.laws.law_watch_files_are_read_as_written.Goals as goal

pub returns : goal.returns
returns c = WatchesAreReadAsWritten_always
