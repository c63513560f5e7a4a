use Rattle.command_plans.proofs.Coming.{outcomes_come}
use Rattle.command_plans.proofs.Facts.{found_valid, heard_passed, misread_about, never_words}
use Rattle.command_plans.proofs.Facts.{unopened_early}
use Rattle.mtc_plans.specs.PartyKinds.{party_kinds}
use Rattle.mtc_plans.proofs.laws.law_commands_come.Goals as goal

pub returns-clause-six : goal.returns-clause-six
returns-clause-six c = λ h. outcomes_come (party_kinds h)

pub returns-clause-words : goal.returns-clause-words
returns-clause-words c = λ h. never_words (party_kinds h)

pub returns-clause-misread : goal.returns-clause-misread
returns-clause-misread c = λ h. misread_about (party_kinds h)

pub returns-clause-early : goal.returns-clause-early
returns-clause-early c = λ h. unopened_early (party_kinds h)

pub returns-clause-valid : goal.returns-clause-valid
returns-clause-valid c = λ h. found_valid (party_kinds h)

pub returns-clause-passed : goal.returns-clause-passed
returns-clause-passed c = λ h. heard_passed (party_kinds h)
