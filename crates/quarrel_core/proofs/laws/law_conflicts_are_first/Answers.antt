use Rattle.quarrel_core.proofs.InConflict.{ConflictsAreFirst_always}
use Rattle.quarrel_core.proofs.Collisions.{KeysRise_always}
use Rattle.quarrel_core.proofs.laws.law_conflicts_are_first.Goals as goal

pub returns-clause-indices : goal.returns-clause-indices
returns-clause-indices c = ConflictsAreFirst_always

pub returns-clause-keys : goal.returns-clause-keys
returns-clause-keys c = KeysRise_always
