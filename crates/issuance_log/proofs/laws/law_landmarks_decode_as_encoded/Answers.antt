use Rattle.std.proofs.Common.{arith}
use Rattle.issuance_log.specs.Records.{landmark_tag}
use Rattle.issuance_log.proofs.Encoded.{size_again, size_takes}
use Rattle.issuance_log.proofs.laws.law_landmarks_decode_as_encoded.Goals as goal

pub returns-clause-again : goal.returns-clause-again
returns-clause-again c = size_again landmark_tag (omega arith)

pub returns-clause-only : goal.returns-clause-only
returns-clause-only c = size_takes landmark_tag (omega arith)
