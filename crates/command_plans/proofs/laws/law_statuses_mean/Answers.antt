use Rattle.command_plans.proofs.Facts.{misread_about, never_words, unopened_early}
use Rattle.command_plans.proofs.laws.law_statuses_mean.Goals as goal

pub returns-clause-words : goal.returns-clause-words
returns-clause-words g c = never_words g.K.JournalKinds.kinds

pub returns-clause-misread : goal.returns-clause-misread
returns-clause-misread g c = misread_about g.K.JournalKinds.kinds

pub returns-clause-early : goal.returns-clause-early
returns-clause-early g c = unopened_early g.K.JournalKinds.kinds
