use Rattle.journal_core.proofs.Found.{read_standing}
use Rattle.journal_core.proofs.Standing.{found_stands}
use Rattle.journal_core.proofs.laws.law_crash_states_are_read_by_their_records.Goals as goal

pub returns-clause-read : goal.returns-clause-read
returns-clause-read g c = λ fold disk list state all is crash_state left.
    read_standing fold crash_state list state (all crash_state left) is

pub returns-clause-only : goal.returns-clause-only
returns-clause-only g c = λ fold disk since crash_state found left.
    found_stands fold crash_state found (g.met.D.Disk.left_bytes disk since crash_state left)
