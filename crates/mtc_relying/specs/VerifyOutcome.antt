-- The outcome of `verify CERT STORE NOW`.
use Rattle.std.specs.Prelude.{ℕ, ◌++◌, codes, Result, Ok, Err, pos}
use Rattle.std.specs.Fmt.{decimal}
use Rattle.byte_formats.specs.Types.{HashFunction, Text}
use Rattle.policy_core.specs.Files.{store_of}
use Rattle.policy_core.specs.declared.answer.Accepted.{Accepted}
use Rattle.policy_core.specs.declared.refusal.Refusal.{Refusal}
use Rattle.policy_core.specs.declared.refusal.Refusal.TheVariants.{Grammar, ProofGrammar}
use Rattle.policy_core.specs.Judgement.{judgement}
use Rattle.mtc_command.specs.declared.answer.Said.TheVariants.{Done}
use Rattle.mtc_command.specs.declared.answer.Stopped.TheVariants.{BadForm}
use Rattle.mtc_command.specs.Steps.{Outcome, Files, says, stops_at, with_bytes, with_form}
use Rattle.der_core.specs.Reasons.{cert_fault_text}
use Rattle.mtc_proof.specs.Reasons.{proof_fault_text}
use Rattle.policy_core.specs.Reasons.{store_fault_text, refusal_text}
use Rattle.mtc_relying.specs.Reasons.{judged_against}

-- What is reported of a judgement. Bytes that are no certificate or no proof are faults of the
-- file.
abbrev pub verdict_says : Text → Result Accepted Refusal → Outcome
verdict_says cert (Ok accepted) =
    says Done (codes "accepted " ++ (decimal accepted.index ++ codes "\n"))
verdict_says cert (Err (Grammar why)) = stops_at BadForm cert (cert_fault_text why)
verdict_says cert (Err (ProofGrammar why)) = stops_at BadForm cert (proof_fault_text why)
verdict_says cert (Err why) = judged_against (refusal_text why)

-- The store is read, and the certificate is judged by it.
abbrev pub verify_says : HashFunction → Text → Text → ℕ → Text → Text → Outcome
verify_says h cert store unix_time bytes text = with_form store_fault_text store (store_of text)
    (λ s. verdict_says cert (judgement h bytes s (pos unix_time)))

-- The outcome of `verify CERT STORE NOW`: the certificate is read, and then the store, each at most
-- 16 MiB.
abbrev pub verify_outcome : HashFunction → Text → Text → ℕ → Files → Outcome
verify_outcome h cert store unix_time files =
    with_bytes 16777216 cert (files cert)
    (λ bytes. with_bytes 16777216 store (files store) (verify_says h cert store unix_time bytes))
