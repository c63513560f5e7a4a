-- The verdicts of the C library on certificates.
use Rattle.std.specs.Prelude.{ℕ, ℤ, ◌≡◌, ◌⊎◌, Result, Ok, Err}
use Rattle.byte_formats.specs.Types.{HashFunction, Text}
use Rattle.policy_core.specs.Files.{store_of}
use Rattle.policy_core.specs.Judgement.{judgement}
use Rattle.policy_core.specs.declared.answer.Accepted.{Accepted}
use Rattle.policy_core.specs.declared.answer.By.{By}
use Rattle.policy_core.specs.declared.answer.By.TheVariants.{Landmark, Cosigners}
use Rattle.policy_core.specs.declared.error.StoreError.{StoreError}
use Rattle.policy_core.specs.declared.refusal.Refusal.{Refusal}
use Rattle.policy_core.specs.declared.refusal.Refusal.TheVariants.{Grammar, ProofGrammar}
use Rattle.policy_core.specs.declared.store.Store.{Store}
use Rattle.mtc_c.specs.declared.verdict.Verdict.{Verdict}
use Rattle.mtc_c.specs.Codes.{cert_code, proof_code, refusal_code, store_code}

-- It isn't accepted, for this reason.
abbrev pub refused : ℕ → ℕ × ℕ → Verdict
refused status why = record {
  status = status;
  refusal = why.0;
  number = why.1;
  index = 0;
  start = 0;
  end = 0;
  cosigners = 0;
}

-- The certificate is too long, and isn't read.
abbrev pub too_long : Verdict
too_long = refused 9 (40, 0)

-- The cosigners that count; none where the store trusts the subtree itself.
abbrev pub counting : By → ℕ
counting Landmark = 0
counting (Cosigners set) = set

-- The verdict by a judgement. Bytes that are no certificate or no proof are not in their form.
abbrev pub verdict_of : Result Accepted Refusal → Verdict
verdict_of (Ok a) = record {
  status = 0;
  refusal = 0;
  number = 0;
  index = a.index;
  start = a.start;
  end = a.end;
  cosigners = counting a.by;
}
verdict_of (Err (Grammar why)) = refused 2 (cert_code why)
verdict_of (Err (ProofGrammar why)) = refused 2 (proof_code why)
verdict_of (Err why) = refused 3 (refusal_code why)

-- The store is read, and the certificate is judged by it.
abbrev pub verdict_by : Result Store StoreError → (Store → Result Accepted Refusal) → Verdict
verdict_by (Ok store) judged = verdict_of (judged store)
verdict_by (Err why) judged = refused 2 (store_code why)

-- The verdict on a certificate by a store file at a time; or memory was refused, and nothing is
-- known of it.
abbrev pub IsVerdict : HashFunction → Text → Text → ℤ → Verdict → Type 0
IsVerdict h cert store now verdict = (verdict ≡ refused 8 (0, 0))
    ⊎ (verdict ≡ verdict_by (store_of store) (λ s. judgement h cert s now))
