use Rattle.std.proofs.Common.{arith}
use Rattle.journal_core.proofs.journal.Journal.end_after_first.Goals as goal

pub returns-clause-end : goal.returns-clause-end
returns-clause-end g c = λ first long. omega arith
