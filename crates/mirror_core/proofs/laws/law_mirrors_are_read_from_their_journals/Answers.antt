use Rattle.journal_core.proofs.Found.{read_standing}
use Rattle.journal_core.proofs.Standing.{found_stands}
use Rattle.mirror_core.specs.Folds.{mirror_fold}
use Rattle.mirror_core.proofs.laws.law_mirrors_are_read_from_their_journals.Goals as goal

pub returns-clause-read : goal.returns-clause-read
returns-clause-read c = λ h. read_standing (mirror_fold h)

pub returns-clause-only : goal.returns-clause-only
returns-clause-only c = λ h. found_stands (mirror_fold h)
