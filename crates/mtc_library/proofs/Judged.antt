-- A certificate that is accepted has a proof that reads.
use Rattle.std.proofs.Common.{◌≡◌, Ok, Err}
use Rattle.std.specs.Prelude.{ℤ}
use Rattle.byte_formats.specs.Readings.{lifted}
use Rattle.byte_formats.specs.Types.{HashFunction}
use Rattle.byte_formats.proofs.Steps.{bind_ok, lifted_ok}
use Rattle.cert_fields.specs.Certificate.{Parts}
use Rattle.mtc_proof.specs.Reading.{proof_in}
use Rattle.mtc_proof.specs.declared.fault.ProofError.{ProofError}
use Rattle.policy_core.specs.Judgement.{admitted, judged}
use Rattle.policy_core.specs.declared.answer.Accepted.{Accepted}
use Rattle.policy_core.specs.declared.refusal.Refusal.TheVariants.{ProofGrammar}
use Rattle.policy_core.specs.declared.store.Store.{Store}

pub has_proof : (h : HashFunction) (store : Store) (now : ℤ) (c : Parts) (a : Accepted)
    (fault : ProofError) → judged h store now c ≡ Ok a → proof_in c.proof ≡ Err fault → ⊥
unfolding judged
has_proof h store now c a fault accepted read =
    let s = bind_ok (admitted store now c) _ a accepted in
    let t = bind_ok (lifted ProofGrammar (proof_in c.proof)) _ a s.2 in
    let is : proof_in c.proof ≡ Ok t.0 =
    lifted_ok ProofGrammar (proof_in c.proof) t.0 t.1 in
    absurd cc
