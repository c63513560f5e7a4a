-- A certificate is accepted exactly if the grammars, the tree and the store say so.
use Rattle.std.proofs.Common.{◌≡◌, ℕ, Bool, true, false, List, ◌∷◌, ◌++◌, length, Option, Some}
use Rattle.std.proofs.Common.{None, Result, Ok, refl, sym, ap, subst, ◌∙◌, ◌⊎◌, inl, inr}
use Rattle.std.specs.Prelude.{ℤ, if◌then◌else◌}
use Rattle.std.specs.List.{find, list_any}
use Rattle.std.specs.Str.{bytes_eq}
use Rattle.std.proofs.lemmas.Slice.Eq.{bytes_eq-Decides}
use Rattle.byte_formats.specs.Offsets.{IsBytes}
use Rattle.byte_formats.specs.Readings.{◌>>=◌, lifted}
use Rattle.byte_formats.proofs.Steps.{bind_ok, lifted_ok, pass_ok, ok_is, IsBytes-rest}
use Rattle.byte_formats.proofs.Steps.{IsBytes-back}
use Rattle.der_core.specs.Elements.{length_octets, element}
use Rattle.cert_fields.specs.Certificate.{Parts, parts_of}
use Rattle.cert_fields.specs.Encoding.{tbs_fields, certificate_fields, certificate}
use Rattle.cert_fields.specs.Grammar.{IsCertificate}
use Rattle.cert_fields.proofs.CertificateForm.{parts_only, parts_again}
use Rattle.tree_core.specs.Evaluation.{evaluation}
use Rattle.tree_core.specs.Tree.{leaf_hash}
use Rattle.mtc_proof.specs.Proofs.{ProofParts, proof_text, IsProof}
use Rattle.mtc_proof.specs.Reading.{proof_in}
use Rattle.mtc_proof.proofs.Forms.{proofs_only, proofs_again}
use Rattle.policy_core.specs.Stores.{IsValid}
use Rattle.policy_core.specs.declared.answer.Accepted.{Accepted}
use Rattle.policy_core.specs.declared.answer.By.{By}
use Rattle.policy_core.specs.declared.answer.By.TheVariants.{Landmark, Cosigners}
use Rattle.policy_core.specs.declared.lists.Trusted.{Trusted}
use Rattle.policy_core.specs.declared.store.Store.{Store}
use Rattle.policy_core.specs.declared.refusal.Refusal.{Refusal}
use Rattle.policy_core.specs.declared.refusal.Refusal.TheVariants.{Grammar, ProofGrammar}
use Rattle.policy_core.specs.declared.refusal.Refusal.TheVariants.{ProofShape, LandmarkDiffers}
use Rattle.policy_core.specs.Acceptance.{IsAmong, Trusts, HoldsNoOther, IsTrusted, IsSatisfied}
use Rattle.policy_core.specs.Acceptance.{IsCosigned, IsAccepted, accepted_by}
use Rattle.policy_core.specs.Counting.{counted, first_unmet}
use Rattle.policy_core.specs.Judgement.{admitted, is_of, accepted, by_rules, by_cosigners, by_trust}
use Rattle.policy_core.specs.Judgement.{decided, entry_by, judged, judgement}
use Rattle.policy_core.proofs.Asked.{IsAdmitted, admitted_only, admitted_again}
use Rattle.policy_core.proofs.Policies.{all_met, met_all}
use Rattle.policy_core.proofs.TrustedHash.{any_of, any_trusted, find_only, find_again, find_none}
use Rattle.policy_core.proofs.TrustedHash.{none_found, none_of, trusted_with}

-- ---- the decision

pub record IsDecided (store : Store) (index : ℕ) (p : ProofParts) (hash : List ℕ) (a : Accepted)
    : Type 0 where
  pub by : IsTrusted store p hash a.by ⊎ IsCosigned store p hash a.by
  pub known : a ≡ accepted a.by index p hash

reported : (by : By) (index : ℕ) (p : ProofParts) (hash : List ℕ) (a : Accepted)
    → accepted by index p hash ≡ a → a ≡ accepted a.by index p hash
reported by index p hash a same =
    sym same ∙ ap (λ (b : By). accepted b index p hash) (ap (λ (x : Accepted). x.by) same)

cosigned_only : (store : Store) (index : ℕ) (p : ProofParts) (hash : List ℕ) (a : Accepted)
    → find (is_of p.start p.end) store.subtrees ≡ None
    → by_cosigners store index p hash ≡ Ok a → IsDecided store index p hash a
unfolding by_cosigners
cosigned_only store index p hash a none e =
    let set : ℕ = counted store p hash in
    go (first_unmet set store.rules) refl e
  where
    go : (u : Option ℕ) → first_unmet (counted store p hash) store.rules ≡ u
        → by_rules index p hash (counted store p hash) u ≡ Ok a → IsDecided store index p hash a
    go (Some rule) is e = absurd cc
    go None is e =
        let set : ℕ = counted store p hash in
        let same = ok_is Refusal (accepted (Cosigners set) index p hash) a e in
        let all = all_met set store.rules is in
        record {
          by = inr (record {
            cosigners = sym (ap (λ (x : Accepted). x.by) same);
            untrusted = find_none p.start p.end store.subtrees none;
            satisfied = record { some = all.0; met = all.1 };
          });
          known = reported (Cosigners set) index p hash a same;
        }

pub decided_only : (store : Store) (index : ℕ) (p : ProofParts) (hash : List ℕ) (a : Accepted)
    → decided store index p hash ≡ Ok a → IsDecided store index p hash a
unfolding decided
decided_only store index p hash a e = go (find (is_of p.start p.end) store.subtrees) refl e
  where
    go : (o : Option Trusted) → find (is_of p.start p.end) store.subtrees ≡ o
        → by_trust store index p hash o ≡ Ok a → IsDecided store index p hash a
    go None found e = cosigned_only store index p hash a found e
    go (Some t) found e =
        let g = pass_ok (bytes_eq t.hash hash) (Ok (accepted Landmark index p hash))
        LandmarkDiffers a e in
        let f = find_only p.start p.end store.subtrees t found in
        let equal : t.hash ≡ hash = (bytes_eq-Decides t.hash hash).0 g.0 in
        let all : t ≡ trusted_with p.start p.end hash =
        ap (λ (n : ℕ). trusted_with n t.end t.hash) f.from
        ∙ (ap (λ (n : ℕ). trusted_with p.start n t.hash) f.to
        ∙ ap (λ (b : List ℕ). trusted_with p.start p.end b) equal) in
        let P : Trusted → Type 0 = λ x. IsAmong x store.subtrees in
        let same = ok_is Refusal (accepted Landmark index p hash) a g.1 in
        record {
          by = inl (record {
            landmark = sym (ap (λ (x : Accepted). x.by) same);
            among = subst P all f.among;
          });
          known = reported Landmark index p hash a same;
        }

decided_again : (store : Store) (index : ℕ) (p : ProofParts) (hash : List ℕ) (by : By)
    → IsValid store → IsTrusted store p hash by ⊎ IsCosigned store p hash by
    → decided store index p hash ≡ Ok (accepted by index p hash)
unfolding decided by_cosigners
decided_again store index p hash by valid (inl t) =
    let found = find_again (trusted_with p.start p.end hash) store.subtrees valid.different
    t.among in
    rw (found, (bytes_eq-Decides hash hash).1 refl, t.landmark) refl
decided_again store index p hash by valid (inr c) =
    rw (
      none_found p.start p.end store.subtrees c.untrusted,
      met_all (counted store p hash) store.rules c.satisfied.some c.satisfied.met,
      c.cosigners,
    ) refl

-- ---- the steps

abbrev with_proof : (List ℕ → List ℕ) → Store → Parts → ProofParts → Result Accepted Refusal
with_proof h store c p =
    lifted ProofShape
    (evaluation h (leaf_hash h (entry_by h store c)) c.serial p.start p.end p.path) >>=
    λ hash. decided store c.serial p hash

abbrev admitted_with : (List ℕ → List ℕ) → Store → Parts → Result Accepted Refusal
admitted_with h store c = lifted ProofGrammar (proof_in c.proof) >>= λ p. with_proof h store c p

-- The bytes of the signature are bytes.
proof_bytes : (p : Parts) → IsBytes (certificate p) → IsBytes p.proof
unfolding certificate element
proof_bytes p h =
    let fields : List ℕ = certificate_fields p in
    let inner : IsBytes fields = IsBytes-back (length_octets (length fields)) fields
    (IsBytes-rest 48 (length_octets (length fields) ++ fields) h) in
    let bits : List ℕ = 0 ∷ p.proof in
    let signature : IsBytes (element 3 bits) =
    IsBytes-back (element 48 (tbs_fields p) ++ p.algorithm) (element 3 bits) inner in
    let contents : IsBytes bits = IsBytes-back (length_octets (length bits)) bits
    (IsBytes-rest 3 (length_octets (length bits) ++ bits) signature) in
    IsBytes-rest 0 p.proof contents

pub accepted_only : (h : List ℕ → List ℕ) (bytes : List ℕ) (store : Store) (now : ℤ) (a : Accepted)
    → IsBytes bytes
    → judgement h bytes store now ≡ Ok a → IsAccepted h bytes store now a
unfolding judged judgement
accepted_only h bytes store now a ok e =
    let s = bind_ok (lifted Grammar (parts_of bytes)) (judged h store now) a e in
    let c : Parts = s.0 in
    let t = bind_ok (admitted store now c) (λ (done : Unit {0}). admitted_with h store c) a s.2 in
    let u = bind_ok (lifted ProofGrammar (proof_in c.proof))
    (λ (p : ProofParts). with_proof h store c p) a t.2 in
    let p : ProofParts = u.0 in
    let eval = evaluation h (leaf_hash h (entry_by h store c)) c.serial p.start p.end p.path in
    let v = bind_ok (lifted ProofShape eval) (λ (hash : List ℕ). decided store c.serial p hash)
    a u.2 in
    let cert = parts_only bytes c ok (lifted_ok Grammar (parts_of bytes) c s.1) in
    let admission = admitted_only store now c t.0 t.1 in
    let inner : IsBytes c.proof = proof_bytes c (subst IsBytes cert.0 ok) in
    let proof = proofs_only c.proof p inner (lifted_ok ProofGrammar (proof_in c.proof) p u.1) in
    let value : eval ≡ Ok v.0 = lifted_ok ProofShape eval v.0 v.1 in
    let end = decided_only store c.serial p v.0 a v.2 in
    let hash : v.0 ≡ a.hash = sym (ap (λ (x : Accepted). x.hash) end.known) in
    let By : List ℕ → Type 0 = λ b. IsTrusted store p b a.by ⊎ IsCosigned store p b a.by in
    record {
      parts = c;
      fits = cert.1;
      encoded = cert.0;
      algorithm = admission.algorithm;
      issuer = admission.issuer;
      begun = admission.begun;
      lasting = admission.lasting;
      extensions = admission.extensions;
      not_revoked = admission.not_revoked;
      proof = p;
      proof_fits = proof.1;
      proof_encoded = proof.0;
      evaluates = value ∙ ap (λ (b : List ℕ). Ok b) hash;
      by = subst By hash end.by;
      known = end.known ∙ ap (λ (b : List ℕ). accepted a.by c.serial p b) hash;
    }

pub accepted_again : (h : List ℕ → List ℕ) (bytes : List ℕ) (store : Store) (now : ℤ) (a : Accepted)
    → IsValid store
    → IsAccepted h bytes store now a → judgement h bytes store now ≡ Ok a
unfolding judged judgement
accepted_again h bytes store now a valid f =
    let c : Parts = f.parts in
    let p : ProofParts = f.proof in
    let one : parts_of bytes ≡ Ok c = ap parts_of f.encoded ∙ parts_again c f.fits in
    let two : admitted store now c ≡ Ok tt = admitted_again store now c (record {
      algorithm = f.algorithm;
      issuer = f.issuer;
      begun = f.begun;
      lasting = f.lasting;
      extensions = f.extensions;
      not_revoked = f.not_revoked;
    }) in
    let three : proof_in c.proof ≡ Ok p = ap proof_in f.proof_encoded
    ∙ proofs_again p f.proof_fits in
    let last = decided_again store c.serial p a.hash a.by valid f.by in
    rw (one, two, three, f.evaluates, last) (ap (λ (x : Accepted). Ok x) (sym f.known))

-- ---- a store that holds no other hash

abbrev chosen : ℕ → Bool → By
chosen set trusted = if trusted then Landmark else Cosigners set

pub by_accepted : (store : Store) (p : ProofParts) (hash : List ℕ)
    → HoldsNoOther store p.start p.end hash
    → Trusts store p.start p.end hash ⊎ IsSatisfied store p hash
    → IsTrusted store p hash (accepted_by store p hash)
    ⊎ IsCosigned store p hash (accepted_by store p hash)
unfolding accepted_by
by_accepted store p hash other by = go (list_any (is_of p.start p.end) store.subtrees) refl by
  where
    go : (b : Bool) → list_any (is_of p.start p.end) store.subtrees ≡ b
        → Trusts store p.start p.end hash ⊎ IsSatisfied store p hash
        → IsTrusted store p hash (chosen (counted store p hash) b)
        ⊎ IsCosigned store p hash (chosen (counted store p hash) b)
    go true any by =
        inl (record {
          landmark = refl;
          among = any_trusted p.start p.end hash store.subtrees other any;
        })
    go false none (inl t) =
        let any = any_of (trusted_with p.start p.end hash) store.subtrees t in absurd cc
    go false none (inr s) =
        inr (record {
          cosigners = refl;
          untrusted = none_of p.start p.end store.subtrees none;
          satisfied = s;
        })

-- A certificate with these parts and this proof is accepted by a store that admits it.
pub accepted_so : (h : List ℕ → List ℕ) (bytes : List ℕ) (store : Store) (now : ℤ) (c : Parts)
    (p : ProofParts) (hash : List ℕ)
    → IsValid store → IsCertificate c → bytes ≡ certificate c → IsAdmitted store now c
    → IsProof p → c.proof ≡ proof_text p
    → evaluation h (leaf_hash h (entry_by h store c)) c.serial p.start p.end p.path ≡ Ok hash
    → HoldsNoOther store p.start p.end hash
    → Trusts store p.start p.end hash ⊎ IsSatisfied store p hash
    → judgement h bytes store now ≡ Ok (accepted (accepted_by store p hash) c.serial p hash)
accepted_so h bytes store now c p hash valid fits encoded asked proof_fits proof_encoded value
    other by =
    accepted_again h bytes store now (accepted (accepted_by store p hash) c.serial p hash) valid
    (record {
      parts = c;
      fits = fits;
      encoded = encoded;
      algorithm = asked.algorithm;
      issuer = asked.issuer;
      begun = asked.begun;
      lasting = asked.lasting;
      extensions = asked.extensions;
      not_revoked = asked.not_revoked;
      proof = p;
      proof_fits = proof_fits;
      proof_encoded = proof_encoded;
      evaluates = value;
      by = by_accepted store p hash other by;
      known = refl;
    })
