use Rattle.collide.proofs.ExtractingPaths.{PathsExtract_always}
use Rattle.collide.proofs.laws.law_paths_extract.Goals as goal

pub returns : goal.returns
returns g c = PathsExtract_always g.H.TreeHash.hash g.met.H.TreeHash.sized
