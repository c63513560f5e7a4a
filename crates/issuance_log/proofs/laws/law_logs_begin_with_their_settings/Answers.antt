use Rattle.issuance_log.proofs.After.{begins_so, only_begins}
use Rattle.issuance_log.proofs.laws.law_logs_begin_with_their_settings.Goals as goal

pub returns-clause-following : goal.returns-clause-following
returns-clause-following c = begins_so

pub returns-clause-only : goal.returns-clause-only
returns-clause-only c = only_begins
