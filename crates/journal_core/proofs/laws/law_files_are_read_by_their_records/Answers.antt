use Rattle.journal_core.proofs.Found.{read_standing}
use Rattle.journal_core.proofs.Standing.{found_stands}
use Rattle.journal_core.proofs.laws.law_files_are_read_by_their_records.Goals as goal

pub returns-clause-read : goal.returns-clause-read
returns-clause-read g c = λ fold bytes list state. read_standing fold bytes list state

pub returns-clause-only : goal.returns-clause-only
returns-clause-only g c = λ fold bytes found. found_stands fold bytes found
