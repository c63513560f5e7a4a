use Rattle.std.proofs.Common.{arith}
use Rattle.journal_core.proofs.Append.{length-tail}
use Rattle.journal_core.proofs.laws.law_writes_have_a_longest.Goals as goal

pub returns-clause-header : goal.returns-clause-header
returns-clause-header c = λ bytes list stands. stands.begins

pub returns-clause-first : goal.returns-clause-first
returns-clause-first c = λ body few. omega (arith, length-tail body)

pub returns-clause-later : goal.returns-clause-later
returns-clause-later c = λ body few. omega (arith, length-tail body)
