-- What a mirror has a cosigner do.
use Rattle.std.specs.Prelude.{◌≡◌, ◌≢◌, ◌↔◌, ◌^◌, ℕ, ◌<◌, [], ◌∷◌, ◌++◌, length, Option, None}
use Rattle.std.specs.Prelude.{IfSome, Result, Ok, Err, IfOk, IsErrOf, OnErr, OnOk}
use Rattle.byte_formats.specs.Types.{Hash, HashFunction, Text}
use Rattle.cosigner_core.specs.Folds.{CosignerState, cosigner_of, having_signed, holding}
use Rattle.cosigner_core.specs.Records.{advance_record, sign_record}
use Rattle.cosigner_core.specs.Requests.{AdvanceParts, SubtreeParts}
use Rattle.cosigner_core.specs.Signatures.{signature_by}
use Rattle.disk_core.specs.declared.disk.Disk.{Ghosts}
use Rattle.hss_core.specs.Hss.{Verifies}
use Rattle.hss_keys.specs.Keys.{public_of}
use Rattle.journal_core.specs.Owners.{Owner, OwnerAppends}
use Rattle.mirror_core.specs.Folds.{MirrorState, MirrorView}
use Rattle.mtc_proof.specs.Inputs.{signed_text}
use Rattle.tree_proofs.specs.declared.checkpoint.Checkpoint.{Checkpoint}
use Rattle.mirror_cosigner.specs.Refusals.{MirrorStepKeepsTo, MirrorTestsSo, advance_refusal_at}
use Rattle.mirror_cosigner.specs.Refusals.{cosign_refusal_at, growth_refusal, held_refusal}
use Rattle.mirror_cosigner.specs.Refusals.{of_mirror_step}
use Rattle.mirror_cosigner.specs.Refusals.{signing_refusal}
use Rattle.mirror_cosigner.specs.Requests.{advance_by_mirror, own_root, subtree_by_mirror}
use Rattle.mirror_cosigner.specs.declared.advancing.Growth.{Growth}
use Rattle.mirror_cosigner.specs.declared.cosigning.Signing.{Signing}
use Rattle.mirror_cosigner.specs.declared.error.MirrorStepError.{MirrorStepError}
use Rattle.mirror_cosigner.specs.declared.error.MirrorStepError.TheVariants.{Beyond, Failed}

-- What is held was compared with the first items of a mirror, which are its own if the model knows
-- it: there is no refusal, or the one of what is held, or the tiles failed.
pub record ComparesHeld (h : HashFunction) (known : Option MirrorState) (v : MirrorView)
    (held : Checkpoint) (result : Result (Unit {0}) MirrorStepError) : Type 0 where
  pub own : Hash
  pub own_is : IfSome known (λ s. own ≡ own_root h s held)
  pub answer : MirrorTestsSo (held_refusal v.size own held) result

-- ---- advance

module _ {C : Type 0} (g : Ghosts C) (h : HashFunction) where
  -- A mirror with so many items, where the root of as many of its own as are held is this one, has
  -- a cosigner carry out this request: the answer follows the refusal, the Advance is appended, and
  -- if nothing is refused, and the tiles didn't fail, the records with it make the cosigner that
  -- holds the new root.
  pub record MirrorAdvances (size : ℕ) (own : Hash) (r : AdvanceParts)
      (old new : Owner C CosignerState) (result : Result (Unit {0}) MirrorStepError) : Type 0 where
    pub appends : OwnerAppends g of_mirror_step (advance_record r.size r.root r.proof)
        (holding r.size r.root old.state) old new result
    pub answer : MirrorStepKeepsTo
        (advance_refusal_at h size own old.state old.broken old.end r) result
    pub valid : result ≢ Err Failed
        → advance_refusal_at h size own old.state old.broken old.end r ≡ None
        → IfSome old.records (λ list.
        cosigner_of h (list ++ advance_record r.size r.root r.proof ∷ [])
        ≡ Ok (holding r.size r.root old.state))
    pub records : OnErr result (new.records ≡ old.records)

  -- The mirror has it hold the root of its first items.
  abbrev pub mirror_advances : MirrorState → ℕ → Owner C CosignerState → Owner C CosignerState
      → Result (Unit {0}) MirrorStepError → Type 0
  mirror_advances s size old new result =
      MirrorAdvances (length s.items) (own_root h s old.state.held)
      (advance_by_mirror h s old.state.held size) old new result

  -- The mirror has it do so by some request, which is the mirror's own if the model knows it.
  pub record AdvancesBySome (known : Option MirrorState) (v : MirrorView) (size : ℕ)
      (old new : Owner C CosignerState) (result : Result (Unit {0}) MirrorStepError) : Type 0 where
    pub own : Hash
    pub request : AdvanceParts
    pub log : request.log ≡ v.log
    pub wanted : request.size ≡ size
    pub own_is : IfSome known (λ s. own ≡ own_root h s old.state.held)
    pub request_is : IfSome known (λ s. request ≡ advance_by_mirror h s old.state.held size)
    pub advances : MirrorAdvances v.size own request old new result

-- The root and the proof are those of the mirror's own request, where they are made.
pub record MakesAdvance (h : HashFunction) (known : Option MirrorState) (v : MirrorView)
    (held : Checkpoint) (size : ℕ) (result : Result Growth MirrorStepError) : Type 0 where
  pub own : Hash
  pub own_is : IfSome known (λ s. own ≡ own_root h s held)
  pub answer : MirrorTestsSo (growth_refusal v.size own held size) result
  pub beyond : IsErrOf result (Beyond v.size) ↔ (v.size < size)
  pub made : IfOk result (λ growth. IfSome known (λ s.
      (growth.root ≡ (advance_by_mirror h s held size).root)
      × (growth.proof ≡ (advance_by_mirror h s held size).proof)))

-- ---- cosign

module _ {C : Type 0} (g : Ghosts C) (h : HashFunction) where
  -- A mirror with so many items, where the root of as many of its own as are held is this one, has
  -- a cosigner carry out this request: the answer follows the refusal, the Sign is appended, and if
  -- nothing is refused, and the tiles didn't fail, the records with it make the cosigner of which
  -- one more one-time key has signed, whose number fits four bytes. At Ok the signature is that of
  -- this key, and verifies.
  pub record MirrorCosigns (size : ℕ) (own : Hash) (r : SubtreeParts)
      (old new : Owner C CosignerState) (out : Text) (result : Result (Unit {0}) MirrorStepError)
      : Type 0 where
    pub appends : OwnerAppends g of_mirror_step
        (sign_record old.state.key.next r.start r.end r.hash r.proof) (having_signed old.state) old
        new result
    pub answer : MirrorStepKeepsTo
        (cosign_refusal_at h size own old.state old.broken old.end r) result
    pub valid : result ≢ Err Failed
        → cosign_refusal_at h size own old.state old.broken old.end r ≡ None
        → IfSome old.records (λ list. cosigner_of h
        (list ++ sign_record old.state.key.next r.start r.end r.hash r.proof ∷ [])
        ≡ Ok (having_signed old.state))
    pub number : result ≢ Err Failed
        → cosign_refusal_at h size own old.state old.broken old.end r ≡ None
        → old.state.key.next < 2 ^ 32
    pub records : OnErr result (new.records ≡ old.records)
    pub signature : OnOk result (out ≡ signature_by old.state r.start r.end r.hash)
    pub verifies : OnOk result (Verifies (public_of old.state.key.key)
        (signed_text old.state.id old.state.log r.start r.end r.hash) out)

  -- The mirror has it sign a subtree of its items.
  abbrev pub mirror_cosigns : MirrorState → ℕ → ℕ → Owner C CosignerState → Owner C CosignerState
      → Text → Result (Unit {0}) MirrorStepError → Type 0
  mirror_cosigns s start end old new out result =
      MirrorCosigns (length s.items) (own_root h s old.state.held)
      (subtree_by_mirror h s old.state.held start end) old new out result

  -- The mirror has it do so by some request, which is the mirror's own if the model knows it.
  pub record CosignsBySome (known : Option MirrorState) (v : MirrorView) (start end : ℕ)
      (old new : Owner C CosignerState) (out : Text) (result : Result (Unit {0}) MirrorStepError)
      : Type 0 where
    pub own : Hash
    pub request : SubtreeParts
    pub log : request.log ≡ v.log
    pub from : request.start ≡ start
    pub to : request.end ≡ end
    pub own_is : IfSome known (λ s. own ≡ own_root h s old.state.held)
    pub request_is : IfSome known (λ s. request ≡ subtree_by_mirror h s old.state.held start end)
    pub cosigns : MirrorCosigns v.size own request old new out result

-- The hash and the proof are those of the mirror's own request, where they are made.
pub record MakesSubtree (h : HashFunction) (known : Option MirrorState) (v : MirrorView)
    (held : Checkpoint) (start end : ℕ) (result : Result Signing MirrorStepError) : Type 0 where
  pub own : Hash
  pub own_is : IfSome known (λ s. own ≡ own_root h s held)
  pub answer : MirrorTestsSo (signing_refusal v.size own held start end) result
  pub made : IfOk result (λ signing. IfSome known (λ s.
      (signing.hash ≡ (subtree_by_mirror h s held start end).hash)
      × (signing.proof ≡ (subtree_by_mirror h s held start end).proof)))
