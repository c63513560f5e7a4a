use Rattle.mtc_plans.proofs.Heard.{advanced_so, begun_so, cosigned_so, exported_so, issued_so}
use Rattle.mtc_plans.proofs.Heard.{all_issued_so, has_child_so, keyed_so, switched_so}
use Rattle.mtc_plans.proofs.HeardOfBoth.{mirror_advanced_so, mirror_cosigned_so}
use Rattle.mtc_plans.proofs.laws.law_texts_are_of_their_records.Goals as goal

pub returns-clause-issue : goal.returns-clause-issue
returns-clause-issue c = issued_so

pub returns-clause-issue_list : goal.returns-clause-issue_list
returns-clause-issue_list c = all_issued_so

pub returns-clause-switch : goal.returns-clause-switch
returns-clause-switch c = switched_so

pub returns-clause-cosign : goal.returns-clause-cosign
returns-clause-cosign c = cosigned_so

pub returns-clause-advance : goal.returns-clause-advance
returns-clause-advance c = advanced_so

pub returns-clause-child : goal.returns-clause-child
returns-clause-child c = has_child_so

pub returns-clause-export : goal.returns-clause-export
returns-clause-export c = exported_so

pub returns-clause-keygen : goal.returns-clause-keygen
returns-clause-keygen c = keyed_so

pub returns-clause-init : goal.returns-clause-init
returns-clause-init c = begun_so

pub returns-clause-mirror_advance : goal.returns-clause-mirror_advance
returns-clause-mirror_advance c = mirror_advanced_so

pub returns-clause-mirror_cosign : goal.returns-clause-mirror_cosign
returns-clause-mirror_cosign c = mirror_cosigned_so
