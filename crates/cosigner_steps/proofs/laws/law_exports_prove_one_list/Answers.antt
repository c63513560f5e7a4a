use Rattle.cosigner_steps.proofs.OneList.{OneListAfter_always}
use Rattle.cosigner_steps.proofs.laws.law_exports_prove_one_list.Goals as goal

pub returns : goal.returns
returns g c = OneListAfter_always g.H.TreeHash.hash g.met.H.TreeHash.sized
