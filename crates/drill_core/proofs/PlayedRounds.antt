-- A round that was played, from its parts.
use Rattle.std.proofs.Common.{◌≡◌, ◌∙◌, ◌+◌, ◌≤◌, ℕ, List, [], ◌∷◌, ◌++◌, length, Option, Some}
use Rattle.std.proofs.Common.{None}
use Rattle.std.proofs.Common.{refl, sym, ap, subst, arith}
use Rattle.std.proofs.lemmas.List.Sums.{sum_by-cons}
use Rattle.byte_formats.specs.Types.{Hash, HashFunction, Text}
use Rattle.tree_core.specs.Tree.{tree_hash}
use Rattle.tree_core.specs.declared.hashing.TreeHash.{Ghosts as Hashes}
use Rattle.mtc_proof.specs.Proofs.{SigParts}
use Rattle.issuance_log.specs.Folds.{LogState}
use Rattle.cosigner_core.specs.Folds.{CosignerState}
use Rattle.drill_parties.specs.Cosigners.{HaveSigned, IsAdvanced, IsSignatureBy, IsSigned, Paired}
use Rattle.drill_parties.specs.Cosigners.{keys_used}
use Rattle.drill_parties.specs.CosignerViews.{cosigner_shown}
use Rattle.drill_parties.specs.declared.cosigner_party.CosignerParty.{CosignerParty}
use Rattle.drill_parties.specs.declared.round.Round.{Round}
use Rattle.drill_parties.specs.declared.turns.Stop.{Stop}
use Rattle.drill_parties.proofs.Pairs.{paired_join}
use Rattle.drill_core.specs.LogParties.{log_shown}
use Rattle.drill_core.specs.Played.{HasCertified, HasHeldAndSigned, with_landmark, log_root}
use Rattle.drill_core.specs.declared.parties.DrillParties.{DrillParties}
use Rattle.drill_core.proofs.Turns.{signed_before, turned}

marked_entries : (landmark : Option (Option Stop)) (s : LogState)
    → (with_landmark landmark s).entries ≡ s.entries
marked_entries None s = refl
marked_entries (Some turn) s = refl

module _ {H : Type 0} {hashes : Hashes H} where
  -- a cosigner that holds more has used no one-time key
  pub advanced_keys : (size : ℕ) (root : Hash) (old new : List (CosignerParty H hashes))
      → Paired (IsAdvanced size root) old new → keys_used new ≡ keys_used old
  advanced_keys size root [] [] are = refl
  advanced_keys size root [] (n ∷ ns) are = absurd are
  advanced_keys size root (o ∷ os) [] are = absurd are
  advanced_keys size root (o ∷ os) (n ∷ ns) are =
      let first = sum_by-cons (λ (x : CosignerParty H hashes). (cosigner_shown x).key.next) n ns
      in
      let second = sum_by-cons (λ (x : CosignerParty H hashes). (cosigner_shown x).key.next) o
      os in
      let here = ap (λ (s : CosignerState). s.key.next) are.0.state in
      let rest = advanced_keys size root os ns are.1 in
      omega (arith, first, second, here, rest)

  signed_first : (size : ℕ) (hash : Hash) (old grown : List (CosignerParty H hashes))
      (parts : List SigParts) → Paired (IsAdvanced size hash) old grown
      → Paired (λ party part. IsSignatureBy size hash (cosigner_shown party) part) grown parts
      → Paired (λ party part. IsSignatureBy size hash (cosigner_shown party) part) old parts
  signed_first size hash old grown parts advanced signed =
      paired_join (IsAdvanced size hash)
      (λ party part. IsSignatureBy size hash (cosigner_shown party) part)
      (λ party part. IsSignatureBy size hash (cosigner_shown party) part)
      (signed_before size hash) old grown parts advanced signed

  module _ (h : HashFunction) (r : Round) (old grown marks new : DrillParties H hashes)
      (advanced : Paired (IsAdvanced (length (log_shown grown.log).entries)
      (log_root h (log_shown grown.log))) old.cosigners.parties.items grown.cosigners.parties.items)
      (set : log_shown marks.log ≡ with_landmark r.landmark (log_shown grown.log))
      (same : marks.cosigners.parties.items ≡ grown.cosigners.parties.items)
      (done : HasCertified h r.index marks new) where
    abbrev log : LogState
    log = log_shown new.log

    entries_are : log.entries ≡ (log_shown grown.log).entries
    entries_are =
        ap (λ (s : LogState). s.entries) (done.log.shown ∙ set)
        ∙ marked_entries r.landmark (log_shown grown.log)

    grown_so : Paired (IsAdvanced (length log.entries) (log_root h log)) old.cosigners.parties.items
        grown.cosigners.parties.items
    grown_so = subst (λ (es : List Text). Paired (IsAdvanced (length es) (tree_hash h es))
        old.cosigners.parties.items grown.cosigners.parties.items) (sym entries_are) advanced

    pub each_turned : Paired (HasHeldAndSigned (length log.entries) (log_root h log))
        old.cosigners.parties.items new.cosigners.parties.items
    each_turned =
        paired_join (IsAdvanced (length log.entries) (log_root h log))
        (IsSigned (length log.entries) (log_root h log))
        (HasHeldAndSigned (length log.entries) (log_root h log))
        (turned (length log.entries) (log_root h log)) old.cosigners.parties.items
        grown.cosigners.parties.items new.cosigners.parties.items grown_so
        (subst (λ (parties : List (CosignerParty H hashes)). Paired (IsSigned (length log.entries)
        (log_root h log)) parties new.cosigners.parties.items) same
        (subst (λ (s : LogState). Paired (IsSigned (length s.entries) (log_root h s))
        marks.cosigners.parties.items new.cosigners.parties.items) (sym done.log.shown) done.each))

    pub all_signed : HaveSigned (length log.entries) (log_root h log) old.cosigners.parties.items []
        done.signatures
    all_signed =
        let here : HaveSigned (length log.entries) (log_root h log) grown.cosigners.parties.items []
        done.signatures =
        subst (λ (parties : List (CosignerParty H hashes)). HaveSigned (length log.entries)
        (log_root h log) parties [] done.signatures) same
        (subst (λ (s : LogState). HaveSigned (length s.entries) (log_root h s)
        marks.cosigners.parties.items [] done.signatures) (sym done.log.shown) done.signed) in
        record {
          parts = here.parts;
          signed = signed_first (length log.entries) (log_root h log) old.cosigners.parties.items
              grown.cosigners.parties.items here.parts grown_so here.signed;
          put = here.put;
        }

    pub keys_so : keys_used marks.cosigners.parties.items ≡ keys_used old.cosigners.parties.items
    keys_so = ap (λ (parties : List (CosignerParty H hashes)). keys_used parties) same
        ∙ advanced_keys (length log.entries) (log_root h log) old.cosigners.parties.items
        grown.cosigners.parties.items grown_so
