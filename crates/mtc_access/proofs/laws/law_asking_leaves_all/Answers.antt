use Rattle.mtc_access.proofs.AddsNone.{asking_leaves_all}
use Rattle.mtc_access.proofs.laws.law_asking_leaves_all.Goals as goal

pub returns : goal.returns
returns c = asking_leaves_all
