use Rattle.journal_core.proofs.Found.{read_standing}
use Rattle.journal_core.proofs.Standing.{found_stands}
use Rattle.issuance_log.specs.Folds.{log_fold}
use Rattle.issuance_log.proofs.laws.law_logs_are_read_from_their_journals.Goals as goal

pub returns-clause-read : goal.returns-clause-read
returns-clause-read c = λ h. read_standing (log_fold h)

pub returns-clause-only : goal.returns-clause-only
returns-clause-only c = λ h. found_stands (log_fold h)
