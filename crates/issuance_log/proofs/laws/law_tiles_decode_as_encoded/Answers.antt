use Rattle.std.proofs.Common.{arith}
use Rattle.issuance_log.specs.Records.{tiles_tag}
use Rattle.issuance_log.proofs.Encoded.{size_again, size_takes}
use Rattle.issuance_log.proofs.laws.law_tiles_decode_as_encoded.Goals as goal

pub returns-clause-again : goal.returns-clause-again
returns-clause-again c = size_again tiles_tag (omega arith)

pub returns-clause-only : goal.returns-clause-only
returns-clause-only c = size_takes tiles_tag (omega arith)
