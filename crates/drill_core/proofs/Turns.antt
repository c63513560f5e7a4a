-- What a round makes of cosigners.
use Rattle.std.proofs.Common.{◌≡◌, ◌∙◌, ◌+◌, ◌<◌, ◌≤◌, ◌++◌, ℕ, zero, suc, List, [], ◌∷◌, length}
use Rattle.std.proofs.Common.{sym}
use Rattle.std.proofs.Common.{ap, subst, arith, refl}
use Rattle.std.specs.Prelude.{◌↔◌}
use Rattle.std.specs.List.{AllByRecursion}
use Rattle.byte_formats.specs.Types.{Hash, HashFunction, Text}
use Rattle.tree_core.specs.declared.hashing.TreeHash.{Ghosts as Hashes}
use Rattle.mtc_proof.specs.Proofs.{SigParts}
use Rattle.issuance_log.specs.Folds.{LogState}
use Rattle.policy_core.specs.declared.store.Store.{Store}
use Rattle.entry_list.specs.Items.{ItemLists}
use Rattle.cosigner_core.specs.Folds.{CosignerState}
use Rattle.cosigner_core.specs.Words.{cosigner_disk}
use Rattle.drill_parties.specs.CosignerParties.{IsCosignerDisk}
use Rattle.drill_parties.specs.CosignerViews.{IsExportOf, IsStill, cosigner_shown, cosigner_stops}
use Rattle.drill_parties.specs.CosignerViews.{records_shown}
use Rattle.drill_parties.specs.Cosigners.{HasRecordedAll, IsAdvanced, IsSignatureBy, IsSigned}
use Rattle.drill_parties.specs.Cosigners.{Paired}
use Rattle.drill_parties.specs.Cosigners.{held_first, keys_used, stops_by}
use Rattle.std.proofs.lemmas.List.Sums.{sum_by-cons}
use Rattle.tree_proofs.specs.declared.checkpoint.Checkpoint.{Checkpoint}
use Rattle.drill_parties.specs.declared.cosigner_party.CosignerParty.{CosignerParty}
use Rattle.drill_parties.proofs.CosignerStops.{more_twice}
use Rattle.drill_core.specs.Audits.{AllByExport, StandsByExport, StandsWith}
use Rattle.drill_core.specs.AuditViews.{AllStand}
use Rattle.drill_core.specs.Listed.{log_items}
use Rattle.drill_core.specs.Played.{HasHeldAndSigned, IsCosignerWithin, IsPartyAfter}
use Rattle.drill_parties.specs.Rounds.{Drill}
use Rattle.drill_core.proofs.AuditCases.{by_export, with_export}

module _ {H : Type 0} {hashes : Hashes H} where
  -- each stands on its disk
  pub each_disk : (parties : List (CosignerParty H hashes))
      → AllByRecursion (λ party. IsCosignerDisk hashes.hash (cosigner_shown party)
      (cosigner_disk party.cosigner)) parties
  each_disk [] = tt
  each_disk (n ∷ ns) = (n.stands, each_disk ns)

  -- a cosigner that holds a root and signs it
  pub turned : (size : ℕ) (hash : Hash) (a b c : CosignerParty H hashes) → IsAdvanced size hash a b
      → IsSigned size hash b c → HasHeldAndSigned size hash a c
  turned size hash a b c advanced signed =
      let more = signed.state.more in
      let key : (cosigner_shown b).key.next ≡ (cosigner_shown a).key.next =
      ap (λ (s : CosignerState). s.key.next) advanced.state in
      record {
        id = signed.state.id ∙ ap (λ (s : CosignerState). s.id) advanced.state;
        log_id = signed.state.log_id ∙ ap (λ (s : CosignerState). s.log) advanced.state;
        held = signed.state.held ∙ ap (λ (s : CosignerState). s.held) advanced.state;
        key = signed.state.key ∙ ap (λ (s : CosignerState). s.key.key) advanced.state;
        more = omega (arith, more, key);
        recorded = record {
          more = more_twice (records_shown a) (records_shown b) (records_shown c) advanced.more
              signed.recorded.more;
          sign = signed.recorded.sign;
        };
      }

  -- a signature is of the cosigner from before it went on
  pub signed_before : (size : ℕ) (hash : Hash) (a b : CosignerParty H hashes) (part : SigParts)
      → IsAdvanced size hash a b → IsSignatureBy size hash (cosigner_shown b) part
      → IsSignatureBy size hash (cosigner_shown a) part
  signed_before size hash a b part advanced by =
      subst (λ (s : CosignerState). IsSignatureBy size hash s part → IsSignatureBy size hash
      (cosigner_shown a) part) (sym advanced.state)
      (λ is. record { cosigner = is.cosigner; verifies = is.verifies; short = is.short }) by

  -- a cosigner that was read since
  pub signed_still : (size : ℕ) (hash : Hash) (a b c : CosignerParty H hashes)
      → IsSigned size hash a b → IsStill b c → IsSigned size hash a c
  signed_still size hash a b c signed still = record {
    state = record {
      id = ap (λ (s : CosignerState). s.id) still.state ∙ signed.state.id;
      log_id = ap (λ (s : CosignerState). s.log) still.state ∙ signed.state.log_id;
      held = ap (λ (s : CosignerState). s.held) still.state ∙ signed.state.held;
      key = ap (λ (s : CosignerState). s.key.key) still.state ∙ signed.state.key;
      more = subst (λ (s : CosignerState). (cosigner_shown a).key.next + 1 ≤ s.key.next)
          (sym still.state) signed.state.more;
    };
    recorded = subst (λ (list : List Text). HasRecordedAll size hash (records_shown a) list)
        (sym still.records) signed.recorded;
  }

  -- audits of cosigners that were read since
  pub all_still : (h : HashFunction) (store : Store) (cert : Text) (log : LogState)
      (old new : List (CosignerParty H hashes)) → Paired IsStill old new
      → AllStand h store cert log new → AllStand h store cert log old
  all_still h store cert log [] [] are all = tt
  all_still h store cert log [] (n ∷ ns) are all = absurd are
  all_still h store cert log (o ∷ os) [] are all = absurd are
  all_still h store cert log (o ∷ os) (n ∷ ns) are all = (
    subst (λ (s : CosignerState). StandsWith h store cert log s (records_shown o)) are.0.state
        (subst (λ (list : List Text). StandsWith h store cert log (cosigner_shown n) list)
        are.0.records all.0),
    all_still h store cert log os ns are.1 all.1,
  )

  -- what is added up of them
  pub still_keys : (old new : List (CosignerParty H hashes)) → Paired IsStill old new
      → keys_used new ≡ keys_used old
  still_keys [] [] are = refl
  still_keys [] (n ∷ ns) are = absurd are
  still_keys (o ∷ os) [] are = absurd are
  still_keys (o ∷ os) (n ∷ ns) are =
      let first = sum_by-cons (λ (x : CosignerParty H hashes). (cosigner_shown x).key.next) n ns
      in
      let second = sum_by-cons (λ (x : CosignerParty H hashes). (cosigner_shown x).key.next) o
      os in
      let here = ap (λ (s : CosignerState). s.key.next) are.0.state in
      let rest = still_keys os ns are.1 in
      omega (arith, first, second, here, rest)

  pub still_stops : (old new : List (CosignerParty H hashes)) → Paired IsStill old new
      → stops_by new ≡ stops_by old
  still_stops [] [] are = refl
  still_stops [] (n ∷ ns) are = absurd are
  still_stops (o ∷ os) [] are = absurd are
  still_stops (o ∷ os) (n ∷ ns) are =
      let first = sum_by-cons cosigner_stops n ns in
      let second = sum_by-cons cosigner_stops o os in
      let here = are.0.stops in
      let rest = still_stops os ns are.1 in
      omega (arith, first, second, here, rest)

  -- audits with the exports are those with the records
  pub by_exports : (store : Store) (cert : Text) (log : LogState)
      (parties : List (CosignerParty H hashes)) (files : List Text)
      → Paired (IsExportOf hashes.hash) parties files
      → AllStand hashes.hash store cert log parties
      → AllByExport hashes.hash store cert (log_items log) files
  by_exports store cert log [] [] are all = tt
  by_exports store cert log [] (f ∷ fs) are all = absurd are
  by_exports store cert log (n ∷ ns) [] are all = absurd are
  by_exports store cert log (n ∷ ns) (f ∷ fs) are all = (
    by_export hashes.hash store cert log (cosigner_shown n) (records_shown n) f all.0 are.0,
    by_exports store cert log ns fs are.1 all.1,
  )

  pub with_exports : (store : Store) (cert : Text) (log : LogState)
      (parties : List (CosignerParty H hashes)) (files : List Text)
      → Paired (IsExportOf hashes.hash) parties files
      → AllByExport hashes.hash store cert (log_items log) files
      → AllStand hashes.hash store cert log parties
  with_exports store cert log [] [] are all = tt
  with_exports store cert log [] (f ∷ fs) are all = absurd are
  with_exports store cert log (n ∷ ns) [] are all = absurd are
  with_exports store cert log (n ∷ ns) (f ∷ fs) are all = (
    with_export hashes.hash store cert log (cosigner_shown n) (cosigner_disk n.cosigner) f n.stands
        are.0 all.0,
    with_exports store cert log ns fs are.1 all.1,
  )

  -- cosigners that hold no more than this hold less than more
  pub hold_less : (few more : ℕ) (parties : List (CosignerParty H hashes)) → few < more
      → AllByRecursion (λ party. (cosigner_shown party).held.size ≤ few) parties
      → AllByRecursion (λ party. (cosigner_shown party).held.size < more) parties
  hold_less few more [] less all = tt
  hold_less few more (n ∷ ns) less all =
      let here = all.0 in (omega (arith, here, less), hold_less few more ns less all.1)

  -- what the first of them holds is no more either
  pub first_few : (most : ℕ) (parties : List (CosignerParty H hashes)) (held : ℕ)
      → held ≡ held_first parties → 0 < length parties
      → AllByRecursion (λ party. (cosigner_shown party).held.size < most) parties → held ≤ most
  first_few most [] held is some all = absurd (omega (arith, some))
  first_few most (n ∷ ns) held is some all = let here = all.0 in omega (arith, is, here)

  -- what the cosigners of a drill hold
  pub hold_that : (h : HashFunction) (number count : ℕ) (d : Drill) (arcs : List ℕ)
      (parties : List (CosignerParty H hashes)) (size : ℕ) → d.size ≤ size → 1 ≤ size
      → Paired (IsPartyAfter h number count d) arcs parties
      → AllByRecursion (λ party. (cosigner_shown party).held.size ≤ size) parties
  hold_that h number count d [] [] size less some are = tt
  hold_that h number count d [] (n ∷ ns) size less some are = absurd are
  hold_that h number count d (a ∷ others) [] size less some are = absurd are
  hold_that h number count d (a ∷ others) (n ∷ ns) size less some are = (
    held_is h number count d a n size less some are.0,
    hold_that h number count d others ns size less some are.1,
  )
    where
      held_is : (h : HashFunction) (number count : ℕ) (d : Drill) (a : ℕ)
          (n : CosignerParty H hashes) (size : ℕ) → d.size ≤ size → 1 ≤ size
          → IsPartyAfter h number count d a n → (cosigner_shown n).held.size ≤ size
      held_is h number zero d a n size less some is =
          let held : (cosigner_shown n).held.size ≡ 0 =
          ap (λ (c : Checkpoint). c.size) is.within.held in
          omega (arith, held)
      held_is h number (suc count) d a n size less some is =
          let held : (cosigner_shown n).held.size ≡ d.size =
          ap (λ (c : Checkpoint). c.size) is.within.held in
          omega (arith, held, less)

-- one audit more
pub counted_more : (P : Text → Type 0) (xs : List Text) (x : Text) (count one i : ℕ) → count ≤ i
    → one ≤ 1 → AllByRecursion P xs ↔ (count ≡ i) → P x ↔ (one ≡ 1)
    → AllByRecursion P (xs ++ x ∷ []) ↔ (count + one ≡ i + 1)
counted_more P xs x count one i few few_one so_far here = (
  λ all.
      let parts = all_parts xs all in
      let before = so_far.0 parts.0 in
      let last = here.0 parts.1 in
      omega (arith, before, last),
  λ both.
      all_push xs (so_far.1 (omega (arith, both, few, few_one)))
      (here.1 (omega (arith, both, few, few_one))),
)
  where
    all_parts : (xs : List Text) → AllByRecursion P (xs ++ x ∷ []) → AllByRecursion P xs × P x
    all_parts [] all = (tt, all.0)
    all_parts (y ∷ ys) all = let rest = all_parts ys all.1 in ((all.0, rest.0), rest.1)

    all_push : (xs : List Text) → AllByRecursion P xs → P x → AllByRecursion P (xs ++ x ∷ [])
    all_push [] all here = (here, tt)
    all_push (y ∷ ys) all here = (all.0, all_push ys all.1 here)
