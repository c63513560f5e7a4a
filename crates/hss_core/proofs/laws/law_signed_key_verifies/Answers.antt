use Rattle.std.proofs.Common.{arith}
use Rattle.std.proofs.lemmas.List.{length-take-le}
use Rattle.lms_core.specs.Trees.{private_key}
use Rattle.hss_core.proofs.SignedKeys.{signed_key_verifies}
use Rattle.hss_core.proofs.laws.law_signed_key_verifies.Goals as goal

pub returns : goal.returns
returns c l t secret public message parts q below size index few =
    signed_key_verifies (private_key l t secret) q below public message parts
    (length-take-le 16 secret (omega arith)) index few
