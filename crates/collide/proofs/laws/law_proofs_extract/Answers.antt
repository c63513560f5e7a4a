use Rattle.collide.proofs.Extracting.{ProofsExtract_always}
use Rattle.collide.proofs.laws.law_proofs_extract.Goals as goal

pub returns : goal.returns
returns g c = ProofsExtract_always g.H.TreeHash.hash g.met.H.TreeHash.sized
