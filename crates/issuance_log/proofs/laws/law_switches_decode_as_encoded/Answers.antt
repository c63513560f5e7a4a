use Rattle.std.proofs.Common.{arith}
use Rattle.issuance_log.specs.Records.{switch_tag}
use Rattle.issuance_log.proofs.Encoded.{size_again, size_takes}
use Rattle.issuance_log.proofs.laws.law_switches_decode_as_encoded.Goals as goal

pub returns-clause-again : goal.returns-clause-again
returns-clause-again c = size_again switch_tag (omega arith)

pub returns-clause-only : goal.returns-clause-only
returns-clause-only c = size_takes switch_tag (omega arith)
