use Rattle.mtc_monitor.proofs.StateFiles.{StateFilesChain_always}
use Rattle.mtc_monitor.proofs.laws.law_state_files_chain.Goals as goal

pub returns : goal.returns
returns c = StateFilesChain_always
