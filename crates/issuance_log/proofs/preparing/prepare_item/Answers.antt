use Rattle.std.proofs.Common.{sym}
use Rattle.issuance_log.proofs.Adds.{capacity_of}
use Rattle.issuance_log.proofs.preparing.prepare_item.Goals as goal

pub returns-clause-size : goal.returns-clause-size
returns-clause-size g c = capacity_of _ _ (sym c.if-is_full.ensures.full)
