use Rattle.cosigner_core.proofs.After.{begins_so, after_its_tree, once_each, only_begins}
use Rattle.cosigner_core.proofs.laws.law_cosigners_begin_with_their_settings.Goals as goal

pub returns-clause-following : goal.returns-clause-following
returns-clause-following c = begins_so

pub returns-clause-only : goal.returns-clause-only
returns-clause-only c = only_begins

pub returns-clause-once : goal.returns-clause-once
returns-clause-once c = once_each

pub returns-clause-trees : goal.returns-clause-trees
returns-clause-trees c = after_its_tree
