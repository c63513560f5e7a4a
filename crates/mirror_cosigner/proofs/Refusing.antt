-- What holds where a mirror refuses nothing.
use Rattle.std.proofs.Common.{◌≡◌, ℕ, ◌≤◌, Bool, true, false, not, length, None, Some, nat_lt, refl}
use Rattle.std.specs.Prelude.{if◌then◌else◌}
use Rattle.std.proofs.lemmas.Bool.{ltb-false}
use Rattle.byte_formats.specs.Types.{Hash, HashFunction}
use Rattle.tree_core.specs.Subtree.{is_subtree}
use Rattle.tree_proofs.specs.declared.checkpoint.Checkpoint.{Checkpoint}
use Rattle.cosigner_core.specs.Folds.{CosignerState}
use Rattle.cosigner_core.specs.Refusals.{earlier}
use Rattle.cosigner_core.proofs.Allowed.{none_first}
use Rattle.mirror_core.specs.Folds.{MirrorState}
use Rattle.mirror_cosigner.specs.Refusals.{advance_refusal_at, cosign_refusal_at, growth_refusal}
use Rattle.mirror_cosigner.specs.Refusals.{is_mine, signing_refusal}
use Rattle.mirror_cosigner.specs.Requests.{advance_by_mirror, own_root, subtree_by_mirror}
use Rattle.mirror_cosigner.specs.declared.error.MirrorStepError.TheVariants.{BadSubtree, Beyond}
use Rattle.mirror_cosigner.specs.declared.error.MirrorStepError.TheVariants.{NotMine}
use Rattle.mirror_cosigner.proofs.Proved.{HoldsOwn, mine_is}

growth_few : (b c : Bool) (n : ℕ) (x y : Hash)
    → (if b then Some (Beyond n) else (if not c then Some (NotMine x y) else None)) ≡ None
    → b ≡ false
growth_few true c n x y is = cc
growth_few false c n x y is = refl

pub advance_few : (h : HashFunction) (size : ℕ) (own : Hash) (signer : CosignerState)
    (broken : Bool) (end : ℕ) (s : MirrorState) (wanted : ℕ)
    → advance_refusal_at h size own signer broken end (advance_by_mirror h s signer.held wanted)
    ≡ None → wanted ≤ size
unfolding advance_refusal_at
advance_few h size own signer broken end s wanted is =
    let first = none_first (growth_refusal size own signer.held wanted) _ is in
    ltb-false size wanted (growth_few (nat_lt size wanted) (is_mine size own signer.held) size
    signer.held.root own first)

-- The cosigner holds the first items, and the interval is a subtree of what is held.
pub record SignsOwn (h : HashFunction) (s : MirrorState) (held : Checkpoint) (start end : ℕ)
    : Type 0 where
  pub mine : HoldsOwn h s held
  pub valid : is_subtree start end ≡ true
  pub within : end ≤ held.size

signing_none : (a b c : Bool) (n : ℕ) (x y : Hash)
    → earlier (if not a then Some (NotMine x y) else None)
    (if not b then Some BadSubtree else (if c then Some (Beyond n) else None)) ≡ None
    → (a ≡ true) × (b ≡ true) × (c ≡ false)
signing_none false b c n x y is = cc
signing_none true false c n x y is = cc
signing_none true true true n x y is = cc
signing_none true true false n x y is = (refl, refl, refl)

pub signs_own : (h : HashFunction) (s : MirrorState) (signer : CosignerState) (broken : Bool)
    (end start stop : ℕ)
    → cosign_refusal_at h (length s.items) (own_root h s signer.held) signer broken end
    (subtree_by_mirror h s signer.held start stop) ≡ None
    → SignsOwn h s signer.held start stop
unfolding cosign_refusal_at
signs_own h s signer broken end start stop is =
    let first = none_first
    (signing_refusal (length s.items) (own_root h s signer.held) signer.held start stop) _ is in
    let all = signing_none (is_mine (length s.items) (own_root h s signer.held) signer.held)
    (is_subtree start stop) (nat_lt signer.held.size stop) signer.held.size signer.held.root
    (own_root h s signer.held) first in
    record {
      mine = mine_is h s signer.held all.0;
      valid = all.1;
      within = ltb-false signer.held.size stop all.2;
    }
