use Rattle.entry_list.proofs.Written.{items_again, items_only, part_again}
use Rattle.entry_list.proofs.laws.law_items_are_read_as_written.Goals as goal

pub returns-clause-only : goal.returns-clause-only
returns-clause-only c = items_only

pub returns-clause-again : goal.returns-clause-again
returns-clause-again c = items_again

pub returns-clause-part : goal.returns-clause-part
returns-clause-part c = part_again
