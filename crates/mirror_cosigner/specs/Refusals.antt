-- Why a mirror has a cosigner take no step: the first refusal that holds.
use Rattle.std.specs.Prelude.{◌≡◌, ℕ, ◌&&◌, nat_le, nat_lt, not, Bool, length, Option, Some, None}
use Rattle.std.specs.Prelude.{option_map, Result, Ok, Err, if◌then◌else◌}
use Rattle.std.specs.Str.{bytes_eq}
use Rattle.byte_formats.specs.Types.{Hash, HashFunction}
use Rattle.cosigner_core.specs.Folds.{CosignerState}
use Rattle.cosigner_core.specs.Refusals.{advance_refused, cosign_refused, earlier}
use Rattle.cosigner_core.specs.Requests.{AdvanceParts, SubtreeParts}
use Rattle.cosigner_core.specs.declared.error.CosignError.TheVariants as cosign_error
use Rattle.journal_core.specs.declared.error.AppendError.{AppendError}
use Rattle.journal_core.specs.declared.error.AppendError.TheVariants as append_error
use Rattle.mirror_core.specs.Folds.{MirrorState}
use Rattle.mtc_io.specs.Counts.{Rose}
use Rattle.tree_core.specs.Subtree.{is_subtree}
use Rattle.tree_proofs.specs.declared.checkpoint.Checkpoint.{Checkpoint}
use Rattle.cosigner_core.specs.Keyless.{of_cosigner_journal}
use Rattle.mirror_cosigner.specs.Requests.{advance_by_mirror, own_root, subtree_by_mirror}
use Rattle.mirror_cosigner.specs.declared.error.MirrorStepError.{MirrorStepError}
use Rattle.mirror_cosigner.specs.declared.error.MirrorStepError.TheVariants.{BadSubtree, Beyond}
use Rattle.mirror_cosigner.specs.declared.error.MirrorStepError.TheVariants.{Cosign, Failed}
use Rattle.mirror_cosigner.specs.declared.error.MirrorStepError.TheVariants.{NotMine}

-- What is held is of the first items of a mirror with so many, where their own root is this one.
abbrev pub is_mine : ℕ → Hash → Checkpoint → Bool
is_mine size own held = nat_le held.size size && bytes_eq own held.root

-- of what is held
abbrev pub held_refusal : ℕ → Hash → Checkpoint → Option MirrorStepError
held_refusal size own held =
    if not (is_mine size own held) then Some (NotMine held.root own) else None

-- ---- advance

-- of the first items: the mirror has fewer, or what is held is not of its own
abbrev pub growth_refusal : ℕ → Hash → Checkpoint → ℕ → Option MirrorStepError
growth_refusal size own held wanted =
    if nat_lt size wanted then Some (Beyond size) else held_refusal size own held

-- and then what the cosigner refuses of the request
unfoldable pub advance_refusal_at : HashFunction → ℕ → Hash → CosignerState → Bool → ℕ
    → AdvanceParts → Option MirrorStepError
advance_refusal_at h size own signer broken end r =
    earlier (growth_refusal size own signer.held r.size)
    (option_map Cosign (advance_refused h signer broken end r))

-- The refusal to have a cosigner hold the first size items of a mirror: of its own request.
abbrev pub mirror_advance_refusal : HashFunction → MirrorState → CosignerState → Bool → ℕ → ℕ
    → Option MirrorStepError
mirror_advance_refusal h s signer broken end size =
    advance_refusal_at h (length s.items) (own_root h s signer.held) signer broken end
    (advance_by_mirror h s signer.held size)

-- ---- cosign

-- of a subtree: what is held is not of the mirror's own items, the interval is none, or it ends
-- after what is held
abbrev pub signing_refusal : ℕ → Hash → Checkpoint → ℕ → ℕ → Option MirrorStepError
signing_refusal size own held start end =
    earlier (held_refusal size own held)
    (if not (is_subtree start end) then Some BadSubtree
    else (if nat_lt held.size end then Some (Beyond held.size) else None))

-- and then what the cosigner refuses of the request
unfoldable pub cosign_refusal_at : HashFunction → ℕ → Hash → CosignerState → Bool → ℕ
    → SubtreeParts → Option MirrorStepError
cosign_refusal_at h size own signer broken end r =
    earlier (signing_refusal size own signer.held r.start r.end)
    (option_map Cosign (cosign_refused h signer broken end r))

-- The refusal to have a cosigner sign a subtree of a mirror's items: of its own request.
abbrev pub mirror_cosign_refusal : HashFunction → MirrorState → CosignerState → Bool → ℕ → ℕ → ℕ
    → Option MirrorStepError
mirror_cosign_refusal h s signer broken end start stop =
    cosign_refusal_at h (length s.items) (own_root h s signer.held) signer broken end
    (subtree_by_mirror h s signer.held start stop)

-- ---- answers

-- The answer follows that refusal. A failure of the tiles may be reported instead of any, and one
-- of the append if there is none.
abbrev pub MirrorStepKeepsTo : {X : Type 0} → Option MirrorStepError → Result X MirrorStepError
    → Type 0
MirrorStepKeepsTo wanted (Ok done) = wanted ≡ None
MirrorStepKeepsTo wanted (Err Failed) = Unit {0}
MirrorStepKeepsTo wanted (Err (Cosign (cosign_error.Append append_error.Failed))) = wanted ≡ None
MirrorStepKeepsTo wanted (Err why) = wanted ≡ Some why

-- The answer of the tests before a request follows their refusal, but for a failure of the tiles.
abbrev pub MirrorTestsSo : {X : Type 0} → Option MirrorStepError → Result X MirrorStepError
    → Type 0
MirrorTestsSo wanted (Ok done) = wanted ≡ None
MirrorTestsSo wanted (Err Failed) = Unit {0}
MirrorTestsSo wanted (Err why) = wanted ≡ Some why

-- A count of failures rose where a call answers that the disk of the tiles failed, and is as it was
-- where it answers anything else.
abbrev pub MirrorStepCounts : {X : Type 0} → ℕ → ℕ → Result X MirrorStepError → Type 0
MirrorStepCounts before after (Ok done) = after ≡ before
MirrorStepCounts before after (Err Failed) = Rose before after
MirrorStepCounts before after (Err other) = after ≡ before

-- the refusal of the cosigner's journal, where it is one
abbrev pub of_mirror_step : MirrorStepError → Option AppendError
of_mirror_step (Cosign why) = of_cosigner_journal why
of_mirror_step other = None
