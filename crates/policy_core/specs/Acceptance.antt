-- What it means that a certificate is accepted, in terms of the grammars and of the tree.
use Rattle.std.specs.Prelude.{◌≡◌, ◌⊎◌, ◌<◌, ◌≤◌, ℕ, true, false, ℤ, ◌≤ℤ◌, List, [], ◌∷◌}
use Rattle.std.specs.Prelude.{length, Ok, if◌then◌else◌}
use Rattle.std.specs.List.{AllByRecursion, count_by, list_any}
use Rattle.byte_formats.specs.Types.{Text, Hash, HashFunction}
use Rattle.cert_fields.specs.Certificate.{Parts}
use Rattle.cert_fields.specs.Extensions.{has_unknown_critical}
use Rattle.cert_fields.specs.Given.{mtc_proof}
use Rattle.cert_fields.specs.Grammar.{IsCertificate}
use Rattle.cert_fields.specs.Encoding.{certificate}
use Rattle.tree_core.specs.Evaluation.{evaluation}
use Rattle.tree_core.specs.Tree.{leaf_hash}
use Rattle.mtc_proof.specs.Proofs.{ProofParts, proof_text, IsProof}
use Rattle.policy_core.specs.declared.answer.Accepted.{Accepted}
use Rattle.policy_core.specs.declared.answer.By.{By}
use Rattle.policy_core.specs.declared.answer.By.TheVariants.{Landmark, Cosigners}
use Rattle.policy_core.specs.declared.lists.Trusted.{Trusted}
use Rattle.policy_core.specs.declared.rules.Rule.{Rule}
use Rattle.policy_core.specs.declared.store.Store.{Store}
use Rattle.policy_core.specs.Counting.{counted, is_in_set}
use Rattle.policy_core.specs.Judgement.{entry_by, is_in, is_of, accepted}

-- The subtree is one of these.
abbrev pub IsAmong : Trusted → List Trusted → Type 0
IsAmong t [] = ⊥
IsAmong t (x ∷ xs) = (x ≡ t) ⊎ IsAmong t xs

-- The store trusts the interval [start, end) with this hash.
abbrev pub Trusts : Store → ℕ → ℕ → Hash → Type 0
Trusts store start end hash =
    IsAmong (record { start = start; end = end; hash = hash }) store.subtrees

-- The store trusts the interval [start, end) with no other hash.
abbrev pub HoldsNoOther : Store → ℕ → ℕ → Hash → Type 0
HoldsNoOther store start end hash =
    AllByRecursion (λ t. is_of start end t ≡ true → t.hash ≡ hash) store.subtrees

-- It is accepted since the store trusts the proof's interval with this hash.
pub record IsTrusted (store : Store) (p : ProofParts) (hash : Hash) (by : By) : Type 0 where
  pub landmark : by ≡ Landmark
  pub among : Trusts store p.start p.end hash

-- At least as many of the rule's cosigners are in the set as it asks for.
abbrev pub IsMet : ℕ → Rule → Type 0
IsMet set r = r.count ≤ count_by (is_in_set set) r.cosigners

-- The store has rules, and those of its cosigners who count for the proof, where its interval has
-- this hash, meet each of them.
pub record IsSatisfied (store : Store) (p : ProofParts) (hash : Hash) : Type 0 where
  pub some : 0 < length store.rules
  pub met : AllByRecursion (IsMet (counted store p hash)) store.rules

-- It is accepted since the store doesn't trust the proof's interval with any hash, and its rules
-- are met.
pub record IsCosigned (store : Store) (p : ProofParts) (hash : Hash) (by : By) : Type 0 where
  pub cosigners : by ≡ Cosigners (counted store p hash)
  pub untrusted : AllByRecursion (λ t. is_of p.start p.end t ≡ false) store.subtrees
  pub satisfied : IsSatisfied store p hash

-- By what a store accepts, where it does: by a subtree that it trusts in the proof's interval, or,
-- where there is none, by the cosigners that count.
unfoldable pub accepted_by : Store → ProofParts → Hash → By
accepted_by store p hash =
    if list_any (is_of p.start p.end) store.subtrees then Landmark
    else Cosigners (counted store p hash)

-- The bytes encode a certificate of the store's log, with the algorithm of Merkle tree proofs, that
-- is valid at the time, isn't revoked, and has no critical extension that isn't known; its
-- signature encodes a proof, whose path gives the interval, from the entry in the form that the
-- store gives it, a hash that the store trusts there, or, if it trusts none there, one for which
-- enough cosigners count.
pub record IsAccepted (h : HashFunction) (bytes : Text) (store : Store) (now : ℤ) (a : Accepted)
    : Type 0 where
  pub parts : Parts
  pub fits : IsCertificate parts
  pub encoded : bytes ≡ certificate parts
  pub algorithm : parts.algorithm ≡ mtc_proof
  pub issuer : parts.issuer ≡ store.name
  pub begun : parts.validity.not_before ≤ℤ now
  pub lasting : now ≤ℤ parts.validity.not_after
  pub extensions : has_unknown_critical parts.extensions ≡ false
  pub not_revoked : AllByRecursion (λ range. is_in parts.serial range ≡ false) store.revoked
  pub proof : ProofParts
  pub proof_fits : IsProof proof
  pub proof_encoded : parts.proof ≡ proof_text proof
  pub evaluates :
      evaluation h (leaf_hash h (entry_by h store parts)) parts.serial proof.start proof.end
      proof.path ≡ Ok a.hash
  pub by : IsTrusted store proof a.hash a.by ⊎ IsCosigned store proof a.hash a.by
  pub known : a ≡ accepted a.by parts.serial proof a.hash
