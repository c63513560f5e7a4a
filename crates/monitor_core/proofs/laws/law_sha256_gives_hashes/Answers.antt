use Rattle.monitor_core.proofs.ShaHashes.{sha256_gives}
use Rattle.monitor_core.proofs.laws.law_sha256_gives_hashes.Goals as goal

pub returns : goal.returns
returns c = sha256_gives
