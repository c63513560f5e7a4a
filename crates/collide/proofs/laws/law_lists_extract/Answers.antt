use Rattle.collide.proofs.ExtractingLists.{ListsExtract_always}
use Rattle.collide.proofs.laws.law_lists_extract.Goals as goal

pub returns : goal.returns
returns g c = ListsExtract_always g.H.TreeHash.hash g.met.H.TreeHash.sized
