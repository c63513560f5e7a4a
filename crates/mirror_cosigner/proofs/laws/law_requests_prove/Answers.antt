use Rattle.mirror_cosigner.proofs.Proved.{never_bad_advance, never_bad_cosign}
use Rattle.mirror_cosigner.proofs.laws.law_requests_prove.Goals as goal

pub returns : goal.returns
returns c = record { advance = never_bad_advance; cosign = never_bad_cosign }
