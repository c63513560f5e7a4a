use Rattle.tree_core.proofs.Powers.{split_largest}
use Rattle.tree_core.proofs.Roots.{IsTreeHash_always}
use Rattle.tree_core.proofs.laws.law_tree_hash_by_clauses.Goals as goal

pub returns-clause-split : goal.returns-clause-split
returns-clause-split c = split_largest

pub returns-clause-hash : goal.returns-clause-hash
returns-clause-hash c = IsTreeHash_always
