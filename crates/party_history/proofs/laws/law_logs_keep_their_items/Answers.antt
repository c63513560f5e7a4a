use Rattle.party_history.proofs.Items.{each_added, item_added, items_kept}
use Rattle.party_history.proofs.laws.law_logs_keep_their_items.Goals as goal

pub returns-clause-added : goal.returns-clause-added
returns-clause-added c = item_added

pub returns-clause-each : goal.returns-clause-each
returns-clause-each c = each_added

pub returns-clause-kept : goal.returns-clause-kept
returns-clause-kept c = items_kept
