use Rattle.mtc_headline.proofs.Given.{execution_begins, execution_goes_on, others_change}
use Rattle.mtc_headline.proofs.Given.{stop_happens}
use Rattle.mtc_headline.proofs.witnesses.witness_executions_go_on.Goals as goal

pub returns-clause-begins : goal.returns-clause-begins
returns-clause-begins g c = execution_begins g.H.TreeHash.hash g.P.Programs.program

pub returns-clause-goes_on : goal.returns-clause-goes_on
returns-clause-goes_on g c = execution_goes_on g.H.TreeHash.hash g.P.Programs.program

pub returns-clause-stops : goal.returns-clause-stops
returns-clause-stops g c = stop_happens g.H.TreeHash.hash g.P.Programs.program

pub returns-clause-writes : goal.returns-clause-writes
returns-clause-writes g c = others_change g.H.TreeHash.hash g.P.Programs.program
