use Rattle.mirror_core.proofs.Rules.{first_is, is_first, is_next, next_is}
use Rattle.mirror_core.proofs.laws.law_records_keep_to_the_rules.Goals as goal

pub returns-clause-first : goal.returns-clause-first
returns-clause-first c = is_first

pub returns-clause-only_first : goal.returns-clause-only_first
returns-clause-only_first c = first_is

pub returns-clause-next : goal.returns-clause-next
returns-clause-next c = is_next

pub returns-clause-only_next : goal.returns-clause-only_next
returns-clause-only_next c = next_is
