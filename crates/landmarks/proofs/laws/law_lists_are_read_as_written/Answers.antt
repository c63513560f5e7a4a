use Rattle.landmarks.proofs.BothWays.{list_again, list_read}
use Rattle.landmarks.proofs.laws.law_lists_are_read_as_written.Goals as goal

pub returns-clause-read : goal.returns-clause-read
returns-clause-read c = list_read

pub returns-clause-again : goal.returns-clause-again
returns-clause-again c = list_again
