use Rattle.party_history.proofs.Taking.{reaches_all, takes, takes_steps}
use Rattle.party_history.proofs.laws.law_journals_have_histories.Goals as goal

pub returns-clause-on : goal.returns-clause-on
returns-clause-on c = λ h starts place start first steps there begins.
    takes h starts place start there first begins steps

pub returns-clause-steps : goal.returns-clause-steps
returns-clause-steps c = takes_steps

pub returns-clause-reaches : goal.returns-clause-reaches
returns-clause-reaches c = reaches_all
