use Rattle.mtc_headline.proofs.Given.{both_sign, files_audited, files_verified, goes_well}
use Rattle.mtc_headline.proofs.witnesses.witness_runs_are_of_the_headline.Goals as goal

pub returns-clause-signs : goal.returns-clause-signs
returns-clause-signs g c = both_sign

pub returns-clause-verified : goal.returns-clause-verified
returns-clause-verified g c = files_verified g.H.TreeHash.hash g.P.Programs.program

pub returns-clause-audited : goal.returns-clause-audited
returns-clause-audited g c = files_audited g.H.TreeHash.hash g.P.Programs.program

pub returns-clause-well : goal.returns-clause-well
returns-clause-well g c = goes_well g.H.TreeHash.hash g.P.Programs.program
