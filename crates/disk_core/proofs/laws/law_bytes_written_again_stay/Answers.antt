use Rattle.disk_core.proofs.Torn.{same_extends, same_clocks, extends_torn, each_has_still}
use Rattle.disk_core.proofs.laws.law_bytes_written_again_stay.Goals as goal

pub returns-clause-exact : goal.returns-clause-exact
returns-clause-exact g c = λ place piece old new there.
    (same_extends place piece old new there, extends_torn place piece old new)

pub returns-clause-crash_states : goal.returns-clause-crash_states
returns-clause-crash_states g c = λ place piece old new there follows crash_state now.
    let (before, was, torn) = follows crash_state now in
    (before, was, same_extends place piece before crash_state (there before was) torn)

pub returns-clause-times : goal.returns-clause-times
returns-clause-times g c = λ place piece old new there run.
    same_clocks g.D.Disk old new place piece there run

pub returns-clause-byte : goal.returns-clause-byte
returns-clause-byte g c = λ place piece old new k within has follows.
    each_has_still place piece (g.D.Disk.may_leave old) (g.D.Disk.may_leave new) k follows within
    has
