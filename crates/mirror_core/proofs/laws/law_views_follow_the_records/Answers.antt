use Rattle.mirror_core.proofs.Views.{views_follow}
use Rattle.mirror_core.proofs.laws.law_views_follow_the_records.Goals as goal

pub returns : goal.returns
returns c = views_follow
