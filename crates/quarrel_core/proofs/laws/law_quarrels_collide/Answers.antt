use Rattle.quarrel_core.proofs.Collisions.{QuarrelsCollide_always}
use Rattle.quarrel_core.proofs.laws.law_quarrels_collide.Goals as goal

pub returns : goal.returns
returns g c = QuarrelsCollide_always g.H.TreeHash.hash g.met.H.TreeHash.sized
