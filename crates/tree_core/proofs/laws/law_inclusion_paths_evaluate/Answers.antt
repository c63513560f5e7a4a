use Rattle.tree_core.proofs.Paths.{IsInclusionPath_always, PathsByLength_always}
use Rattle.tree_core.proofs.Paths.{PathsEvaluate_always, SubtreePathsEvaluate_always}
use Rattle.tree_core.proofs.Paths.{WrongLengthByPath_always}
use Rattle.tree_core.proofs.laws.law_inclusion_paths_evaluate.Goals as goal

pub returns-clause-path : goal.returns-clause-path
returns-clause-path c = IsInclusionPath_always

pub returns-clause-evaluates : goal.returns-clause-evaluates
returns-clause-evaluates c = PathsEvaluate_always

pub returns-clause-lengths : goal.returns-clause-lengths
returns-clause-lengths c = PathsByLength_always

pub returns-clause-in_subtrees : goal.returns-clause-in_subtrees
returns-clause-in_subtrees c = SubtreePathsEvaluate_always

pub returns-clause-wrong_length : goal.returns-clause-wrong_length
returns-clause-wrong_length c = WrongLengthByPath_always
