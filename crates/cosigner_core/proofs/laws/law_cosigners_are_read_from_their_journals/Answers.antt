use Rattle.journal_core.proofs.Found.{read_standing}
use Rattle.journal_core.proofs.Standing.{found_stands}
use Rattle.cosigner_core.specs.Folds.{cosigner_fold}
use Rattle.cosigner_core.proofs.laws.law_cosigners_are_read_from_their_journals.Goals as goal

pub returns-clause-read : goal.returns-clause-read
returns-clause-read c = λ h. read_standing (cosigner_fold h)

pub returns-clause-only : goal.returns-clause-only
returns-clause-only c = λ h. found_stands (cosigner_fold h)
