-- The numbers of refusals in the C library, each with what belongs to it: an offset, the number of
-- a field, or that of a rule.
use Rattle.std.specs.Prelude.{ℕ}
use Rattle.der_core.specs.declared.fault.DerError.{DerError}
use Rattle.der_core.specs.declared.fault.DerError.TheVariants.{Truncated, LongForm, HighTag}
use Rattle.der_core.specs.declared.fault.DerError.TheVariants.{WrongTag, BadInteger, BadBool}
use Rattle.der_core.specs.declared.fault.DerError.TheVariants.{BadOid, BadBits, SetOrder, Trailing}
use Rattle.der_core.specs.declared.fault.CertError.{CertError}
use Rattle.der_core.specs.declared.fault.CertError.TheVariants.{Der, BadVersion, BadSerial, BadTime}
use Rattle.der_core.specs.declared.fault.CertError.TheVariants.{AlgorithmsDiffer, RepeatedExtension}
use Rattle.der_core.specs.declared.fault.CertError.TheVariants.{UniqueId, BadExtension, BadName}
use Rattle.tree_core.specs.declared.error.EvalError.{EvalError}
use Rattle.tree_core.specs.declared.error.EvalError.TheVariants as eval_error
use Rattle.mtc_proof.specs.declared.fault.ProofError.{ProofError}
use Rattle.mtc_proof.specs.declared.fault.ProofError.TheVariants as proof_error
use Rattle.policy_core.specs.declared.error.Key.{Key}
use Rattle.policy_core.specs.declared.error.Key.TheVariants.{LogId, CosignerId, CosignerKey}
use Rattle.policy_core.specs.declared.error.Key.TheVariants.{Count, Cosigners, Start, End, Hash}
use Rattle.policy_core.specs.declared.error.Key.TheVariants.{Table, AlgorithmFrom}
use Rattle.policy_core.specs.declared.error.StoreError.{StoreError}
use Rattle.policy_core.specs.declared.error.StoreError.TheVariants.{NotToml, UnknownKey}
use Rattle.policy_core.specs.declared.error.StoreError.TheVariants.{Missing as MissingKey, BadValue}
use Rattle.policy_core.specs.declared.error.StoreError.TheVariants.{RepeatedId, RepeatedSubtree}
use Rattle.policy_core.specs.declared.error.StoreError.TheVariants.{BadRange, Memory}
use Rattle.policy_core.specs.declared.refusal.Refusal.{Refusal}
use Rattle.policy_core.specs.declared.refusal.Refusal.TheVariants.{Grammar, Algorithm, UnknownLog}
use Rattle.policy_core.specs.declared.refusal.Refusal.TheVariants.{NotYet, Expired, UnknownCritical}
use Rattle.policy_core.specs.declared.refusal.Refusal.TheVariants.{Revoked, ProofGrammar}
use Rattle.policy_core.specs.declared.refusal.Refusal.TheVariants.{ProofShape, LandmarkDiffers}
use Rattle.policy_core.specs.declared.refusal.Refusal.TheVariants.{TooFewCosigners}

-- A field of a store file.
abbrev pub key_code : Key → ℕ
key_code LogId = 0
key_code CosignerId = 1
key_code CosignerKey = 2
key_code Count = 3
key_code Cosigners = 4
key_code Start = 5
key_code End = 6
key_code Hash = 7
key_code Table = 8
key_code AlgorithmFrom = 9

-- Why a text is no store file.
abbrev pub store_code : StoreError → ℕ × ℕ
store_code NotToml = (1, 0)
store_code UnknownKey = (2, 0)
store_code (MissingKey key) = (3, key_code key)
store_code (BadValue key) = (4, key_code key)
store_code RepeatedId = (5, 0)
store_code RepeatedSubtree = (6, 0)
store_code BadRange = (7, 0)
store_code Memory = (0, 0)

-- A fault of an element, with the element's offset.
abbrev pub der_code : DerError → ℕ × ℕ
der_code (Truncated offset) = (16, offset)
der_code (LongForm offset) = (17, offset)
der_code (HighTag offset) = (18, offset)
der_code (WrongTag offset) = (19, offset)
der_code (BadInteger offset) = (20, offset)
der_code (BadBool offset) = (21, offset)
der_code (BadOid offset) = (22, offset)
der_code (BadBits offset) = (23, offset)
der_code (SetOrder offset) = (24, offset)
der_code (Trailing offset) = (25, offset)

-- Why bytes are no certificate.
abbrev pub cert_code : CertError → ℕ × ℕ
cert_code (Der why) = der_code why
cert_code BadVersion = (32, 0)
cert_code BadSerial = (33, 0)
cert_code BadTime = (34, 0)
cert_code AlgorithmsDiffer = (35, 0)
cert_code RepeatedExtension = (36, 0)
cert_code UniqueId = (37, 0)
cert_code BadExtension = (38, 0)
cert_code BadName = (39, 0)

-- Why the bytes of a signature are no proof.
abbrev pub proof_code : ProofError → ℕ × ℕ
proof_code (proof_error.Short offset) = (48, offset)
proof_code proof_error.HashLength = (49, 0)
proof_code proof_error.Trailing = (50, 0)
proof_code (proof_error.EmptyId offset) = (51, offset)

-- Why a proof has not the form of its interval.
abbrev pub shape_code : EvalError → ℕ × ℕ
shape_code eval_error.BadSubtree = (70, 0)
shape_code eval_error.Outside = (71, 0)
shape_code eval_error.WrongLength = (72, 0)

-- Why a certificate is refused.
abbrev pub refusal_code : Refusal → ℕ × ℕ
refusal_code (Grammar why) = cert_code why
refusal_code Algorithm = (64, 0)
refusal_code UnknownLog = (65, 0)
refusal_code NotYet = (66, 0)
refusal_code Expired = (67, 0)
refusal_code UnknownCritical = (68, 0)
refusal_code Revoked = (69, 0)
refusal_code (ProofGrammar why) = proof_code why
refusal_code (ProofShape why) = shape_code why
refusal_code LandmarkDiffers = (73, 0)
refusal_code (TooFewCosigners rule) = (74, rule)
