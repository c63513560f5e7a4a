-- Which certificates are accepted: from the request and the signatures to the relying party.
use Rattle.std.specs.Prelude.{◌≡◌, ◌⊎◌, ◌<◌, ◌≤◌, ◌≤ℤ◌, ℕ, Bool, true, false, pos, List, []}
use Rattle.std.specs.Prelude.{length, slice_get, Some, Ok}
use Rattle.std.specs.List.{AllByRecursion, Contains, count_by}
use Rattle.byte_formats.specs.Types.{Hash, HashFunction, Text}
use Rattle.tree_core.specs.Path.{part_of}
use Rattle.tree_core.specs.Tree.{tree_hash}
use Rattle.tree_core.specs.declared.spans.Span.{Span}
use Rattle.mtc_proof.specs.Proofs.{AreSignatures, SigParts, signature_text}
use Rattle.policy_core.specs.Acceptance.{HoldsNoOther, IsSatisfied, Trusts}
use Rattle.log_entry.specs.Forms.{form_at}
use Rattle.policy_core.specs.Judgement.{form_by, is_in}
use Rattle.policy_core.specs.declared.cosigners.Known.{Known}
use Rattle.policy_core.specs.declared.store.Store.{Store}
use Rattle.issuance_log.specs.Folds.{LogState, view_in}
use Rattle.authority_core.specs.Certificates.{covering_in, proof_for}
use Rattle.file_events.specs.Worlds.{EachRun, Program}
use Rattle.mtc_words.specs.Commands.{cert, issue, light_cert}
use Rattle.mtc_words.specs.Words.{command_of}
use Rattle.mtc_laws.specs.AuditLaws.{HoldsText}
use Rattle.mtc_laws.specs.ExecutionLaws.{OfExecutions}
use Rattle.mtc_laws.specs.Cosigners.{CosignerExecution, HasWritten}
use Rattle.mtc_top.specs.Executions.{Run}
use Rattle.mtc_laws.specs.PrintLaws.{HasCosigned, HasIssued, OfHeard}
use Rattle.mtc_laws.specs.CertLaws.{PrintsCertificate, HasVerified, PrintsAccepted}

module _ (h : HashFunction) (p : Program) where
  -- ---- the certificate

  -- The run is one of `cert` or of `light-cert`, for the entry at this index of the log.
  abbrev pub AsksForCertificate : Text → ℕ → Run p.R p.O p.E → Type 0
  AsksForCertificate name index run =
      ((start : ℕ) × ((end : ℕ) × ((file : Text)
      × (command_of run.words ≡ Ok (cert name index start end file)))))
      ⊎ (command_of run.words ≡ Ok (light_cert name index))

  -- It printed the certificate of that entry: in the subtree that `cert` was asked for, with the
  -- signatures that its file holds; or in that of the least landmark above the entry, without
  -- signatures.
  pub record WritesCertificate (name : Text) (index : ℕ) (old : p.R) (run : Run p.R p.O p.E)
      : Type 0 where
    pub span : Span
    pub signatures : Text
    pub are : AreSignatures signatures
    pub prints : PrintsCertificate h p name index span signatures old run
    pub by : ((file : Text)
        × ((command_of run.words ≡ Ok (cert name index span.start span.end file))
        × HoldsText (p.rooms.file old) file 16777216 signatures))
        ⊎ ((command_of run.words ≡ Ok (light_cert name index))
        × ((signatures ≡ []) × (covering_in (view_in prints.state) index ≡ Some span)))

  -- The tree hash of the log's entries in a subtree.
  abbrev pub certified_hash : LogState → Span → Hash
  certified_hash s span = tree_hash h (part_of s.entries span.start span.end)

  -- ---- the signatures

  -- The store has a cosigner's id and public key at this index, and is for its log. After an
  -- execution of that cosigner's journal a run of `cosign` or `mirror-cosign` printed one of these
  -- signatures, over this interval with this hash.
  pub record HasCosignedAt (store : Store) (start end : ℕ) (hash : Hash) (list : List SigParts)
      (index : ℕ) : Type 0 where
    pub signer : CosignerExecution h p
    -- the run that signed
    pub run : Run p.R p.O p.E
    pub has_run : p.HasRun signer.ends run
    pub signed : HasCosigned h p signer.name signer.ends run
    pub start_is : signed.request.start ≡ start
    pub end_is : signed.request.end ≡ end
    pub hash_is : signed.request.hash ≡ hash
    pub signature : SigParts
    pub written : HasWritten h p run (signature_text signature)
    pub among : Contains list signature
    -- the cosigner, as the store knows it
    pub known : Known
    pub there : slice_get store.cosigners index ≡ Some known
    pub id_is : known.id ≡ signer.settings.id
    pub key_is : known.key ≡ signer.public
    pub log_is : store.log ≡ signer.settings.log

  -- The store has rules, and in each of them as many cosigners as it asks for have done so.
  pub record HaveCosigned (store : Store) (start end : ℕ) (hash : Hash) (list : List SigParts)
      : Type 0 where
    pub some : 0 < length store.rules
    pub has_signed : ℕ → Bool
    pub each : (index : ℕ) → has_signed index ≡ true
        → HasCosignedAt store start end hash list index
    pub met : AllByRecursion (λ rule. rule.count ≤ count_by has_signed rule.cosigners) store.rules

  -- ---- the store

  -- The store is for this log, and gives the index the form that the log gives it. It doesn't
  -- revoke the entry, and holds no other hash for the subtree of its certificate. It trusts the
  -- subtree with the log's hash; or its rules are met by the signatures, or by those of them that
  -- runs of `cosign` and `mirror-cosign` printed.
  pub record Backs (s : LogState) (index : ℕ) (span : Span) (signatures : Text)
      (are : AreSignatures signatures) (store : Store) : Type 0 where
    pub log : store.log ≡ s.settings.id
    pub form : form_by store index ≡ form_at s.switched index
    pub not_revoked : AllByRecursion (λ range. is_in index range ≡ false) store.revoked
    pub no_other : HoldsNoOther store span.start span.end (certified_hash s span)
    pub enough : Trusts store span.start span.end (certified_hash s span)
        ⊎ (IsSatisfied store
        (proof_for h s index span.start span.end signatures) (certified_hash s span)
        ⊎ HaveCosigned store span.start span.end (certified_hash s span) are.list)

  -- ---- the law

  -- A run of `issue` for this request file printed the index. Each run of `verify` over these bytes
  -- accepts them, by each store that backs the certificate, at each time of the request's period.
  -- Or it ends with status 5, 6 or 8.
  abbrev pub IsAcceptedFor : {name : Text} {index : ℕ} {old : p.R} {run : Run p.R p.O p.E}
      → WritesCertificate name index old run → Text → Text → p.R → Run p.R p.O p.E → Type 0
  IsAcceptedFor {name} {index} {old} {run} c bytes file before earlier =
      (issued : HasIssued h p name file before earlier)
      × (length issued.state.entries ≡ index
      → (store : Store) (unix_time : ℕ) (room : p.R) (verifying : Run p.R p.O p.E)
      → HasVerified h p bytes store unix_time room verifying
      → Backs c.prints.state index c.span c.signatures c.are store
      → issued.request.validity.not_before ≤ℤ pos unix_time
      → pos unix_time ≤ℤ issued.request.validity.not_after
      → PrintsAccepted h p index verifying)

  -- What is issued is accepted. After an execution of a log's journal a run of `cert` or
  -- `light-cert` printed these bytes: they are a certificate of the log. And so it is of each run
  -- of the execution by `issue` that did its work, or of which a byte may have gone out.
  abbrev pub IssuedCertificatesAreAccepted : Type 0
  IssuedCertificatesAreAccepted = OfExecutions h p (λ name start first old events new.
      (index : ℕ) (run : Run p.R p.O p.E) (bytes : Text) → p.HasRun new run
      → AsksForCertificate name index run → HasWritten h p run bytes
      → (c : WritesCertificate name index new run)
      × ((file : Text)
      → EachRun p (OfHeard h p (issue name file) (IsAcceptedFor c bytes file)) old events))
