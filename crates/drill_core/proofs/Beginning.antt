-- The beginning of a drill.
use Rattle.std.proofs.Common.{◌≡◌, ◌∙◌, ◌+◌, ℕ, List, [], ◌∷◌, refl, sym, ap, subst, arith}
use Rattle.std.specs.Prelude.{map}
use Rattle.std.specs.List.{sum_by}
use Rattle.std.proofs.lemmas.List.Sums.{sum_by-cons}
use Rattle.byte_formats.specs.Types.{HashFunction}
use Rattle.tree_core.specs.declared.hashing.TreeHash.{Ghosts as Hashes}
use Rattle.tree_proofs.specs.Checkpoints.{empty_checkpoint}
use Rattle.issuance_log.specs.Folds.{new_log}
use Rattle.cosigner_core.specs.Folds.{CosignerState, new_cosigner}
use Rattle.policy_core.specs.declared.cosigners.Known.{Known}
use Rattle.drill_parties.specs.CosignerParties.{cosigner_settings, secret_of}
use Rattle.drill_parties.specs.CosignerViews.{cosigner_shown, cosigner_stops}
use Rattle.drill_parties.specs.Cosigners.{IsNewParty, Paired, keys_used, stops_by}
use Rattle.drill_parties.specs.Rounds.{begun}
use Rattle.drill_parties.specs.declared.cosigner_party.CosignerParty.{CosignerParty}
use Rattle.drill_core.specs.Entries.{entries_to, keys_to, log_settings, log_with}
use Rattle.drill_core.specs.Played.{IsCosignerWithin, IsPartyAfter}
use Rattle.drill_core.specs.Stores.{drill_known, known_as}

new_within : (h : HashFunction) (number last : ℕ) (s : CosignerState)
    → s ≡ new_cosigner h (cosigner_settings last) (secret_of last number)
    → IsCosignerWithin number last 0 (empty_checkpoint h) s
new_within h number last s same =
    subst (λ (t : CosignerState). IsCosignerWithin number last 0 (empty_checkpoint h) t) (sym same)
    (record { id = refl; log_id = refl; held = refl; key = refl; signed = omega arith })

pub log_first : (h : HashFunction) → new_log log_settings ≡ log_with h 1 []
unfolding entries_to keys_to
log_first h = refl

module _ {H : Type 0} {hashes : Hashes H} (h : HashFunction) (number : ℕ) where
  pub party_first : (last : ℕ) (party : CosignerParty H hashes) → IsNewParty h number last party
      → IsPartyAfter h number 0 (begun number) last party
  party_first last party is = record {
    within = new_within h number last (cosigner_shown party) is.state;
    signs = tt;
  }

  -- no one-time key is used
  pub no_keys : (arcs : List ℕ) (parties : List (CosignerParty H hashes))
      → Paired (IsNewParty h number) arcs parties → keys_used parties ≡ 0
  no_keys [] [] are = refl
  no_keys [] (n ∷ ns) are = absurd are
  no_keys (a ∷ others) [] are = absurd are
  no_keys (a ∷ others) (n ∷ ns) are =
      let whole = sum_by-cons (λ (x : CosignerParty H hashes). (cosigner_shown x).key.next) n ns
      in
      let here : (cosigner_shown n).key.next ≡ 0 =
      ap (λ (s : CosignerState). s.key.next) are.0.state in
      let rest = no_keys others ns are.1 in
      omega (arith, whole, here, rest)

  -- and no stop was made
  pub no_stops : (arcs : List ℕ) (parties : List (CosignerParty H hashes))
      → Paired (IsNewParty h number) arcs parties → stops_by parties ≡ 0
  no_stops [] [] are = refl
  no_stops [] (n ∷ ns) are = absurd are
  no_stops (a ∷ others) [] are = absurd are
  no_stops (a ∷ others) (n ∷ ns) are =
      let whole = sum_by-cons cosigner_stops n ns in
      let here = are.0.stops in
      let rest = no_stops others ns are.1 in
      omega (arith, whole, here, rest)

  -- what is known of them
  pub known_first : (arcs : List ℕ) (parties : List (CosignerParty H hashes))
      → Paired (IsNewParty h number) arcs parties
      → map (λ party. known_as (cosigner_shown party)) parties ≡ map (drill_known number) arcs
  known_first [] [] are = refl
  known_first [] (n ∷ ns) are = absurd are
  known_first (a ∷ others) [] are = absurd are
  known_first (a ∷ others) (n ∷ ns) are =
      ap (λ (s : CosignerState). known_as s ∷ map (λ party. known_as (cosigner_shown party)) ns)
      are.0.state
      ∙ ap (λ (list : List Known). drill_known number a ∷ list) (known_first others ns are.1)
