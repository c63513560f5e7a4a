-- A cosigner keeps the ids and the key with which it began, and a Sign adds its number.
use Rattle.std.proofs.Common.{◌≡◌, ℕ, Bool, List, [], ◌∷◌, ◌++◌, arith, ◌≤◌, ◌^◌}
use Rattle.std.proofs.Common.{None, Some, Ok, sym, ap, ◌∙◌}
use Rattle.std.proofs.Common.{append_assoc, length}
use Rattle.std.proofs.lemmas.Grind.{flat_map-append}
use Rattle.std.specs.Int.{w32}
use Rattle.byte_formats.specs.Types.{HashFunction, Text}
use Rattle.hss_keys.specs.Keys.{public_of}
use Rattle.journal_core.specs.Folds.{state_after}
use Rattle.journal_core.proofs.Folds.{state_more}
use Rattle.tls_wire.specs.Encoding.{vector}
use Rattle.cosigner_core.specs.Exports.{export_text, prefix_text, records_text}
use Rattle.cosigner_core.specs.Folds.{CosignerState, cosigner_fold, key_count}
use Rattle.cosigner_core.specs.Folds.{cosigner_of}
use Rattle.cosigner_core.specs.Records.{sign_record, step_in}
use Rattle.cosigner_core.specs.Refusals.{cosign_refused, journal_refusal, subtree_refusal}
use Rattle.cosigner_core.specs.Requests.{IsSubtreeRequest, SubtreeParts}
use Rattle.cosigner_core.specs.declared.step.Step.TheVariants.{Sign}
use Rattle.cosigner_core.specs.declared.settings.CosignerSettings.{CosignerSettings}
use Rattle.cosigner_core.proofs.Encoded.{step_again}
use Rattle.cosigner_core.proofs.Allowed.{key_left, none_first}
use Rattle.cosigner_core.proofs.After.{no_cosigner}
use Rattle.cosigner_core.proofs.Names.{Began, began_first, same_cosigner}
use Rattle.party_history.specs.Rules.{StartsWith}
use Rattle.party_history.specs.declared.start.PartyStart.TheVariants.{Cosigner}

-- the ids and the key of a cosigner are those of its first record
pub of_first : (h : HashFunction) (settings : CosignerSettings) (public first : Text)
    (bodies : List Text) (s : CosignerState) → StartsWith (Cosigner settings public) first
    → cosigner_of h (first ∷ bodies) ≡ Ok s
    → (s.id ≡ settings.id) × (s.log ≡ settings.log) × (public_of s.key.key ≡ public)
of_first h settings public first bodies s begins is =
    let same = began_first h settings first begins.0 bodies s begins.1.0 is in (
      ap (λ (x : Began). x.0) same,
      ap (λ (x : Began). x.1) same,
      ap (λ (x : Began). public_of x.2) same ∙ begins.1.1,
    )

-- ---- the exports of a list and of a longer one

-- the export of more records begins with that of the first of them
pub export_grows : (h : HashFunction) (list more : List Text) (s t : CosignerState)
    → cosigner_of h list ≡ Ok s → cosigner_of h (list ++ more) ≡ Ok t
    → export_text s list ++ records_text more ≡ export_text t (list ++ more)
unfolding state_after
export_grows h [] more s t is whole = absurd (no_cosigner 0 s is)
export_grows h (first ∷ bodies) more s t is whole =
    let same = same_cosigner h (length (first ∷ bodies)) s t more
    (sym (state_more (cosigner_fold h) (first ∷ bodies) more s is) ∙ whole) in
    append_assoc (prefix_text s.id s.log (public_of s.key.key)) (records_text bodies)
    (records_text more)
    ∙ (ap (λ (x : Text). prefix_text s.id s.log (public_of s.key.key) ++ x)
    (sym (flat_map-append (vector w32) bodies more))
    ∙ ap (λ (x : Began). prefix_text x.0 x.1 (public_of x.2)
    ++ records_text (bodies ++ more)) (sym same))

-- ---- a Sign that is added

-- the record of a request that isn't refused is read as the Sign by the next one-time key
pub sign_read : (h : HashFunction) (s : CosignerState) (r : SubtreeParts) (broken : Bool) (end : ℕ)
    → key_count s ≤ 2 ^ 25 → IsSubtreeRequest r → cosign_refused h s broken end r ≡ None
    → step_in (sign_record s.key.next r.start r.end r.hash r.proof)
    ≡ Some (Sign s.key.next r.start r.end r.hash r.proof)
sign_read h s r broken end few fits is =
    let left = key_left h s r (none_first (subtree_refusal h s r)
    (journal_refusal broken end (sign_record s.key.next r.start r.end r.hash r.proof)) is) in
    step_again (Sign s.key.next r.start r.end r.hash r.proof) (record {
      short_word = omega (arith, left, few);
      start_word = fits.start;
      end_word = fits.end;
      sized = fits.hash;
      all_hashes = fits.proof;
    })
