-- Why a file is no store, and why a certificate is refused, in words.
use Rattle.std.specs.Prelude.{◌++◌, codes}
use Rattle.std.specs.Fmt.{decimal}
use Rattle.byte_formats.specs.Types.{Text}
use Rattle.der_core.specs.Reasons.{cert_fault_text}
use Rattle.mtc_proof.specs.Reasons.{proof_fault_text}
use Rattle.tree_core.specs.Reasons.{shape_text}
use Rattle.policy_core.specs.declared.error.Key.{Key}
use Rattle.policy_core.specs.declared.error.Key.TheVariants as store_key
use Rattle.policy_core.specs.declared.error.StoreError.{StoreError}
use Rattle.policy_core.specs.declared.error.StoreError.TheVariants as store_error
use Rattle.policy_core.specs.declared.refusal.Refusal.{Refusal}
use Rattle.policy_core.specs.declared.refusal.Refusal.TheVariants as refusal

-- A field of a store file.
abbrev pub key_text : Key → Text
key_text store_key.LogId = codes "LogId"
key_text store_key.AlgorithmFrom = codes "AlgorithmFrom"
key_text store_key.CosignerId = codes "CosignerId"
key_text store_key.CosignerKey = codes "CosignerKey"
key_text store_key.Count = codes "Count"
key_text store_key.Cosigners = codes "Cosigners"
key_text store_key.Start = codes "Start"
key_text store_key.End = codes "End"
key_text store_key.Hash = codes "Hash"
key_text store_key.Table = codes "Table"

-- Why a file is no store.
abbrev pub store_fault_text : StoreError → Text
store_fault_text store_error.NotToml = codes "NotToml"
store_fault_text store_error.UnknownKey = codes "UnknownKey"
store_fault_text (store_error.Missing key) = codes "Missing " ++ key_text key
store_fault_text (store_error.BadValue key) = codes "BadValue " ++ key_text key
store_fault_text store_error.RepeatedId = codes "RepeatedId"
store_fault_text store_error.RepeatedSubtree = codes "RepeatedSubtree"
store_fault_text store_error.BadRange = codes "BadRange"
store_fault_text store_error.Memory = codes "Memory"

-- Why a certificate is refused.
abbrev pub refusal_text : Refusal → Text
refusal_text (refusal.Grammar why) = cert_fault_text why
refusal_text refusal.Algorithm = codes "Algorithm"
refusal_text refusal.UnknownLog = codes "UnknownLog"
refusal_text refusal.NotYet = codes "NotYet"
refusal_text refusal.Expired = codes "Expired"
refusal_text refusal.UnknownCritical = codes "UnknownCritical"
refusal_text refusal.Revoked = codes "Revoked"
refusal_text (refusal.ProofGrammar why) = proof_fault_text why
refusal_text (refusal.ProofShape why) = codes "ProofShape " ++ shape_text why
refusal_text refusal.LandmarkDiffers = codes "LandmarkDiffers"
refusal_text (refusal.TooFewCosigners rule) = codes "TooFewCosigners " ++ decimal rule
