use Rattle.party_history.proofs.Mirrors.{mirror_added, mirror_kept}
use Rattle.party_history.proofs.laws.law_mirrors_keep_their_items.Goals as goal

pub returns-clause-added : goal.returns-clause-added
returns-clause-added c = mirror_added

pub returns-clause-kept : goal.returns-clause-kept
returns-clause-kept c = mirror_kept
