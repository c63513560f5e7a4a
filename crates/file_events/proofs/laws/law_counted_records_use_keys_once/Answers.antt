use Rattle.file_events.proofs.Levels.{one_level_once}
use Rattle.file_events.proofs.TwoLevels.{two_levels_once}
use Rattle.file_events.proofs.laws.law_counted_records_use_keys_once.Goals as goal

pub returns-clause-one : goal.returns-clause-one
returns-clause-one c = one_level_once

pub returns-clause-two : goal.returns-clause-two
returns-clause-two c = two_levels_once
