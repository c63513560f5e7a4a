use Rattle.mtc_plans.proofs.Names.{journals_named, made_named, no_journal_beside, only_read_named}
use Rattle.mtc_plans.proofs.laws.law_plans_name_their_files.Goals as goal

pub returns-clause-journals : goal.returns-clause-journals
returns-clause-journals c = journals_named

pub returns-clause-beside : goal.returns-clause-beside
returns-clause-beside c = λ h leads_to. no_journal_beside leads_to h

pub returns-clause-makes : goal.returns-clause-makes
returns-clause-makes c = made_named

pub returns-clause-only_read : goal.returns-clause-only_read
returns-clause-only_read c = only_read_named
