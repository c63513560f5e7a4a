use Rattle.disk_core.proofs.Torn.{torn_keeps, keeps_torn}
use Rattle.disk_core.proofs.laws.law_a_torn_write_keeps_others.Goals as goal

pub returns : goal.returns
returns c = λ place piece old new. (torn_keeps place piece old new, keeps_torn place piece old new)
