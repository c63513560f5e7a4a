-- Which stores accept the certificates of a log's entries, and when (the draft on Merkle Tree
-- Certificates, where it verifies certificates).
use Rattle.std.specs.Prelude.{◌≡◌, ◌⊎◌, ◌≤ℤ◌, ℕ, ℤ, false, [], slice_index_or, Option, Some, None}
use Rattle.std.specs.Prelude.{Ok}
use Rattle.std.specs.List.{AllByRecursion}
use Rattle.byte_formats.specs.Types.{Text, Hash, HashFunction}
use Rattle.tls_wire.specs.Anchors.{text_of}
use Rattle.tree_core.specs.Path.{part_of}
use Rattle.tree_core.specs.Tree.{tree_hash}
use Rattle.tree_core.specs.declared.spans.Span.{Span}
use Rattle.cert_names.specs.LogNames.{name_with}
use Rattle.cert_fields.specs.Extensions.{has_unknown_critical}
use Rattle.mtc_proof.specs.Proofs.{ProofParts}
use Rattle.log_entry.specs.Entries.{TbsParts}
use Rattle.log_entry.specs.Forms.{form_of}
use Rattle.log_entry.specs.declared.entry.Form.{Form}
use Rattle.log_entry.specs.Reading.{entry_in}
use Rattle.policy_core.specs.Acceptance.{HoldsNoOther, IsSatisfied, Trusts, accepted_by}
use Rattle.policy_core.specs.Judgement.{accepted, form_by, is_in, judgement}
use Rattle.policy_core.specs.Stores.{IsValid}
use Rattle.policy_core.specs.declared.store.Store.{Store}
use Rattle.issuance_log.specs.Folds.{LogState, view_in}
use Rattle.authority_core.specs.Certificates.{covering_in, proof_for}

-- The entry reads as one of the log with this id: its issuer is the name of the log, and it has no
-- critical extension that isn't known.
pub record IsOwnEntry (id entry : Text) : Type 0 where
  pub fields : TbsParts
  pub read : entry_in entry ≡ Ok (Some fields)
  pub issuer : fields.issuer ≡ name_with (text_of id)
  pub known : has_unknown_critical fields.extensions ≡ false

-- The store is valid and for the log with this id, gives the index this form, doesn't revoke it,
-- and holds no other hash for the proof's interval. It trusts the interval with this hash, or its
-- rules are met by the cosigners whose signatures over the interval with this hash the proof has.
pub record IsSetUpFor (id : Text) (index : ℕ) (wanted : Form) (p : ProofParts) (hash : Hash)
    (store : Store) : Type 0 where
  pub valid : IsValid store
  pub log : store.log ≡ id
  pub form : form_by store index ≡ wanted
  pub not_revoked : AllByRecursion (λ range. is_in index range ≡ false) store.revoked
  pub no_other : HoldsNoOther store p.start p.end hash
  pub enough : Trusts store p.start p.end hash ⊎ IsSatisfied store p hash

-- Each store that is set up for the log's entry at this index, in the form that it has, with the
-- tree hash of the log's entries in the subtree, accepts the bytes at each time from the entry's
-- first to its last one, as the certificate of that index, interval and hash.
abbrev pub StoresAccept : HashFunction → LogState → ℕ → ℕ → ℕ → Text → Text → Type 0
StoresAccept h s index start end signatures bytes =
    let p = proof_for h s index start end signatures in
    let hash = tree_hash h (part_of s.entries start end) in
    (own : IsOwnEntry s.settings.id (slice_index_or s.entries index [])) (store : Store) (now : ℤ)
    → IsSetUpFor s.settings.id index (form_of own.fields) p hash store
    → own.fields.validity.not_before ≤ℤ now → now ≤ℤ own.fields.validity.not_after
    → judgement h bytes store now ≡ Ok (accepted (accepted_by store p hash) index p hash)

-- The same in the subtree of a landmark that holds the entry, without signatures.
abbrev pub AcceptsIn : HashFunction → LogState → ℕ → Text → Option Span → Type 0
AcceptsIn h s index bytes None = ⊥
AcceptsIn h s index bytes (Some span) = StoresAccept h s index span.start span.end [] bytes

-- This holds in the subtree that covers the entry, if an active landmark has one.
abbrev pub StoresAcceptLightly : HashFunction → LogState → ℕ → Text → Type 0
StoresAcceptLightly h s index bytes = AcceptsIn h s index bytes (covering_in (view_in s) index)
