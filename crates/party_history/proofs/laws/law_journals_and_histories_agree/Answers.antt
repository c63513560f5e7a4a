use Rattle.party_history.proofs.Agreement.{agree, alone, back, read, starts_so}
use Rattle.party_history.proofs.laws.law_journals_and_histories_agree.Goals as goal

pub returns-clause-start : goal.returns-clause-start
returns-clause-start c = starts_so

pub returns-clause-alone : goal.returns-clause-alone
returns-clause-alone c = alone

pub returns-clause-agree : goal.returns-clause-agree
returns-clause-agree c = agree

pub returns-clause-back : goal.returns-clause-back
returns-clause-back c = back

pub returns-clause-read : goal.returns-clause-read
returns-clause-read c = read
