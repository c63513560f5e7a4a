-- Signatures that verify.
use Rattle.std.proofs.Common.{◌≡◌, Option, Some, None, is_ok, refl}
use Rattle.std.specs.Option.{is_none}
use Rattle.byte_formats.specs.Refusals.{answer_of}
use Rattle.lms_core.specs.declared.refusals.SigError.{SigError}

pub verified : (refusal : Option SigError) → is_ok (answer_of refusal) ≡ is_none refusal
verified None = refl
verified (Some why) = refl
