use Rattle.mirror_cosigner.proofs.Leaving.{sound_leaves_all}
use Rattle.mirror_cosigner.proofs.laws.law_sound_mirrors_leave_their_records.Goals as goal

pub returns : goal.returns
returns g c = sound_leaves_all c.args.mirror.now
