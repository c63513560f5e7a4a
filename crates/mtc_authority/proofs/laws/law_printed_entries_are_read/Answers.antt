use Rattle.mtc_authority.proofs.Items.{part_printed_again, printed_again}
use Rattle.mtc_authority.proofs.laws.law_printed_entries_are_read.Goals as goal

pub returns-clause-first : goal.returns-clause-first
returns-clause-first c = printed_again

pub returns-clause-part : goal.returns-clause-part
returns-clause-part c = part_printed_again
