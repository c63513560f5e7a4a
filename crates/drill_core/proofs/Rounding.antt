-- From round to round.
use Rattle.std.proofs.Common.{◌≡◌, ◌∙◌, ◌+◌, ◌*◌, ◌-◌, ◌<◌, ◌≤◌, ℕ, zero, suc, List, [], ◌∷◌, ◌++◌}
use Rattle.std.proofs.Common.{length, Option, Some, None, refl, sym, ap, subst, arith}
use Rattle.std.proofs.lemmas.List.{length-append}
use Rattle.std.proofs.lemmas.List.Sums.{count_by-le-length}
use Rattle.std.specs.Prelude.{pos}
use Rattle.std.specs.List.{AllByRecursion}
use Rattle.std.specs.Option.{is_some}
use Rattle.byte_formats.specs.Types.{HashFunction, Text}
use Rattle.tree_core.specs.Tree.{tree_hash}
use Rattle.tree_core.specs.declared.hashing.TreeHash.{Ghosts as Hashes}
use Rattle.tree_proofs.specs.declared.checkpoint.Checkpoint.{Checkpoint}
use Rattle.mtc_proof.specs.Proofs.{SigParts}
use Rattle.issuance_log.specs.Folds.{LogState}
use Rattle.cosigner_core.specs.Words.{cosigner_disk}
use Rattle.policy_core.specs.Judgement.{judgement}
use Rattle.policy_core.specs.declared.store.Store.{Store}
use Rattle.authority_core.specs.Certificates.{IsWritten}
use Rattle.drill_parties.specs.CosignerParties.{IsCosignerDisk}
use Rattle.drill_parties.specs.CosignerViews.{cosigner_shown, records_shown}
use Rattle.drill_parties.specs.Cosigners.{IsSignatureBy, Paired}
use Rattle.drill_parties.specs.Rounds.{Drill, following_round, landmark_turns, marks_after}
use Rattle.drill_parties.specs.Rounds.{stops_in}
use Rattle.drill_parties.specs.Rounds.{stops_of}
use Rattle.drill_parties.specs.declared.cosigner_party.CosignerParty.{CosignerParty}
use Rattle.drill_parties.specs.declared.round.Round.{Round}
use Rattle.drill_parties.specs.declared.turns.Stop.{Stop}
use Rattle.drill_parties.proofs.Pairs.{paired_join}
use Rattle.drill_core.specs.AuditViews.{AllStand}
use Rattle.drill_core.specs.Entries.{entries_to, log_with}
use Rattle.drill_core.specs.LightStores.{IsDue}
use Rattle.drill_core.specs.LogParties.{log_shown}
use Rattle.drill_core.specs.Played.{AreWritten, HasPlayed, HasHeldAndSigned, IsAfter, IsPartyAfter}
use Rattle.drill_core.specs.Played.{IsWrittenOf}
use Rattle.drill_core.specs.Played.{checkpoint_after, cosigner_arcs, issued_to, with_landmark}
use Rattle.drill_core.specs.Played.{log_root}
use Rattle.drill_core.specs.Stores.{IsAcceptedByAll, IsDrillEntry, StoresAcceptNow, drill_store}
use Rattle.drill_core.specs.Stores.{one_accepted}
use Rattle.drill_core.specs.declared.parties.DrillParties.{DrillParties}
use Rattle.drill_core.proofs.Accepting.{form_one}
use Rattle.drill_core.proofs.EachStanding.{all_stand, arcs_count, none_larger, signs_more}
use Rattle.drill_core.proofs.EntryCounts.{entries_length, issued_is}
use Rattle.drill_core.proofs.Judged.{SignsUnder, is_accepted, signs_under}
use Rattle.drill_core.proofs.Requested.{is_entry}

-- ---- the log

marked_with : (h : HashFunction) (landmark : Option (Option Stop)) (size : ℕ) (marks : List ℕ)
    → with_landmark landmark (log_with h size marks)
    ≡ log_with h size (marks_after marks landmark size)
marked_with h None size marks = refl
marked_with h (Some turn) size marks =
    ap (λ (k : ℕ). log_with h size (marks ++ k ∷ [])) (entries_length h size)

one_before : (n : ℕ) → 1 ≤ n → (before : ℕ) × (n ≡ suc before)
one_before zero some = absurd (omega (arith, some))
one_before (suc before) some = (before, refl)

-- ---- certificates

-- one certificate more
one_written : (h : HashFunction) (number : ℕ) (certs : List Text) (written : List (ℕ × ℕ))
    (cert : Text) (w : ℕ × ℕ) → AreWritten h number certs written
    → IsWrittenOf h (log_with h w.1 []) w.0 cert → IsAcceptedByAll h number w.0 w.1 cert
    → AreWritten h number (certs ++ cert ∷ []) (written ++ w ∷ [])
one_written h number [] [] cert w are is accepted = ((is, accepted), tt)
one_written h number [] (v ∷ vs) cert w are is accepted = absurd are
one_written h number (c ∷ cs) [] cert w are is accepted = absurd are
one_written h number (c ∷ cs) (v ∷ vs) cert w are is accepted =
    (are.0, one_written h number cs vs cert w are.1 is accepted)

written_of : (h : HashFunction) (size index : ℕ) (marks : List ℕ) (log : LogState)
    (signatures cert : Text) → ((b : Text) → length (h b) ≡ 32) → log ≡ log_with h size marks
    → IsWritten h log index 0 (length log.entries) signatures cert → 1 ≤ index → index < size
    → size ≤ 64 → IsWrittenOf h (log_with h size []) index cert
written_of h size index marks log signatures cert sized same is some below few =
    let log' : LogState = log_with h size [] in
    let written : IsWritten h log' index 0 (length (entries_to h size)) signatures cert =
    subst (λ (l : LogState). IsWritten h (record l { marks = [] }) index 0 (length l.entries)
    signatures cert) same is in
    record {
      signatures = signatures;
      written = written;
      form = form_one h log' index written.fields sized (is_entry h size index [] some below few)
          written.read;
    }

-- it was counted
one_counted : (h : HashFunction) (number index size : ℕ) (store : Store) (cert : Text)
    → store ≡ drill_store number → IsAcceptedByAll h number index size cert
    → one_accepted (judgement h cert store (pos 1767225600)) ≡ 1
one_counted h number index size store cert same accepted =
    ap (λ (s : Store). one_accepted (judgement h cert s (pos 1767225600))) same
    ∙ ap one_accepted accepted

-- ---- stops and landmarks

few_landmarks : (landmark : Option (Option Stop)) → length (landmark_turns landmark) ≤ 1
few_landmarks None = omega arith
few_landmarks (Some turn) = omega arith

few_stops_of : (r : Round) → length r.entries ≤ 3 → length r.advances ≡ 3 → length r.signs ≡ 3
    → stops_of r ≤ 10
few_stops_of r three advances_are signs_are =
    let one = count_by-le-length is_some r.entries in
    let two = count_by-le-length is_some r.advances in
    let mark = count_by-le-length is_some (landmark_turns r.landmark) in
    let signs = count_by-le-length is_some r.signs in
    let single = few_landmarks r.landmark in
    omega (arith, one, two, mark, signs, single, three, advances_are, signs_are)

marks_more : (marks : List ℕ) (landmark : Option (Option Stop)) (size : ℕ)
    → length (marks_after marks landmark size) ≡ length marks + length (landmark_turns landmark)
marks_more marks None size = omega arith
marks_more marks (Some turn) size = grind (arith, length-append)

-- ---- the newest entry

newest_due : (h : HashFunction) (size : ℕ) (marks : List ℕ) (log : LogState)
    → log ≡ log_with h size marks → 1 < size → size ≤ 64 → IsDue h log
newest_due h size marks log same some few =
    let newest : IsDrillEntry h (log_with h size marks) (size - 1) =
    is_entry h size (size - 1) marks (omega (arith, some)) (omega (arith, some)) few in
    subst (λ (l : LogState). IsDue h l) (sym same) (record {
      id = refl;
      newest = subst (λ (n : ℕ). IsDrillEntry h (log_with h size marks) (n - 1))
          (sym (entries_length h size)) newest;
    })

-- ---- a round

-- A round was played after so many others. Its index lies in the log.
pub record IsNext {H : Type 0} {hashes : Hashes H} (h : HashFunction) (number count : ℕ) (d : Drill)
    (r : Round) (old new : DrillParties H hashes) : Type 0 where
  pub sized : (b : Text) → length (h b) ≡ 32
  pub was : IsAfter h number count d old
  pub played : HasPlayed h r old new
  pub disks : AllByRecursion (λ party. IsCosignerDisk h (cosigner_shown party)
      (cosigner_disk party.cosigner)) new.cosigners.parties.items
  pub some : 1 ≤ d.size
  pub first : 1 ≤ r.index
  pub below : r.index < d.size + length r.entries
  pub within : d.size + length r.entries ≤ 64
  pub few : length r.entries ≤ 3
  pub advances : length r.advances ≡ 3
  pub signs : length r.signs ≡ 3

module _ {H : Type 0} {hashes : Hashes H} (h : HashFunction) (number count next : ℕ) (d : Drill)
    (r : Round) (old new : DrillParties H hashes) (is : IsNext h number count d r old new) where
  abbrev size : ℕ
  size = d.size + length r.entries

  abbrev e : Drill
  e = following_round d r next

  abbrev log : LogState
  log = log_shown new.log

  log_is : log ≡ log_with h size (marks_after d.marks r.landmark size)
  log_is =
      let one = one_before d.size is.some in
      let longer : size ≡ suc one.0 + length r.entries =
      ap (λ (n : ℕ). n + length r.entries) one.1 in
      is.played.log
      ∙ ap (λ (l : LogState). with_landmark r.landmark (issued_to h (length r.entries) l))
      is.was.log
      ∙ ap (λ (n : ℕ). with_landmark r.landmark
      (issued_to h (length r.entries) (log_with h n d.marks))) one.1
      ∙ ap (with_landmark r.landmark) (issued_is h (length r.entries) one.0 size d.marks longer)
      ∙ marked_with h r.landmark size d.marks

  party_next : (last : ℕ) (x y : CosignerParty H hashes) → IsPartyAfter h number count d last x
      → HasHeldAndSigned (length log.entries) (log_root h log) x y
      → IsPartyAfter h number (suc count) e last y
  party_next last x y was turned =
      let more = turned.more in
      let before = was.within.signed in
      record {
        within = record {
          id = turned.id ∙ was.within.id;
          log_id = turned.log_id ∙ was.within.log_id;
          held = turned.held
              ∙ ap (λ (l : LogState). record { size = length l.entries; root = log_root h l })
              log_is
              ∙ ap (λ (k : ℕ). record { size = k; root = tree_hash h (entries_to h size) })
              (entries_length h size);
          key = turned.key ∙ was.within.key;
          signed = omega (arith, more, before);
        };
        signs = signs_more h d.written r.index size (marks_after d.marks r.landmark size) log
            (records_shown x) (records_shown y) log_is turned.recorded.more was.signs
            turned.recorded.sign;
      }

  cosigners_next : Paired (IsPartyAfter h number (suc count) e) cosigner_arcs
      new.cosigners.parties.items
  cosigners_next = paired_join (IsPartyAfter h number count d)
      (HasHeldAndSigned (length log.entries) (log_root h log)) (IsPartyAfter h number (suc count) e)
      party_next cosigner_arcs old.cosigners.parties.items new.cosigners.parties.items
      is.was.cosigners
      is.played.each

  signs_next : (last : ℕ) (x : CosignerParty H hashes) (part : SigParts)
      → IsPartyAfter h number count d last x
      → IsSignatureBy (length log.entries) (log_root h log) (cosigner_shown x) part
      → SignsUnder number (length (entries_to h size)) (tree_hash h (entries_to h size)) last part
  signs_next last x part was by = signs_under number last count (length (entries_to h size))
      (tree_hash h (entries_to h size)) (checkpoint_after h count d.size) (cosigner_shown x) part
      was.within (subst (λ (l : LogState). IsSignatureBy (length l.entries) (log_root h l)
      (cosigner_shown x) part) log_is by)

  accepted_next : IsAcceptedByAll h number r.index size is.played.cert
  accepted_next = is_accepted h number size r.index (marks_after d.marks r.landmark size)
      is.played.signatures is.played.cert is.played.signed.parts
      (paired_join (IsPartyAfter h number count d) (λ x part. IsSignatureBy (length log.entries)
      (log_root h log) (cosigner_shown x) part) (SignsUnder number (length (entries_to h size))
      (tree_hash h (entries_to h size))) signs_next cosigner_arcs old.cosigners.parties.items
      is.played.signed.parts is.was.cosigners is.played.signed.signed) is.played.signed.put
      (subst (λ (l : LogState). StoresAcceptNow h l r.index is.played.signatures is.played.cert)
      log_is is.played.accepts) is.first is.below is.within

  written_next : IsWrittenOf h (log_with h size []) r.index is.played.cert
  written_next = written_of h size r.index (marks_after d.marks r.landmark size) log
      is.played.signatures is.played.cert is.sized log_is is.played.written is.first is.below
      is.within

  stand_next : AllStand h old.store is.played.cert log new.cosigners.parties.items
  stand_next =
      subst (λ (s : Store). AllStand h s is.played.cert log new.cosigners.parties.items)
      (sym is.was.store)
      (subst (λ (l : LogState). AllStand h (drill_store number) is.played.cert l
      new.cosigners.parties.items) (sym log_is)
      (all_stand h number count next d r cosigner_arcs new.cosigners.parties.items
      is.played.cert (arcs_count number) cosigners_next is.disks written_next accepted_next))

  -- the parties after it
  pub after_next : IsAfter h number (suc count) e new
  after_next =
      let p = is.played in
      let was = is.was in
      let keys_before = was.keys in
      let keys = p.keys in
      let verified_before = was.verified in
      let verified = p.verified in
      let one = one_counted h number r.index size old.store p.cert was.store accepted_next in
      let stands_before = was.stands in
      let stands = p.stands stand_next in
      let below = is.below in
      let first = is.first in
      let light_before = was.light in
      let light = p.light (newest_due h size (marks_after d.marks r.landmark size) log log_is
      (omega (arith, below, first)) is.within) in
      let marks = marks_more d.marks r.landmark size in
      let single = few_landmarks r.landmark in
      let few_before = was.few_marks in
      let stops_before = was.stops in
      let stops = p.stops in
      let few_stops_before = was.few_stops in
      let few_stops = few_stops_of r is.few is.advances is.signs in
      record {
        log = log_is;
        cosigners = cosigners_next;
        keys = omega (arith, keys, keys_before);
        store = p.store ∙ was.store;
        certs = subst (λ (list : List Text). AreWritten h number list e.written) (sym p.certs)
            (one_written h number old.certs.items d.written p.cert (r.index, size) was.certs
            written_next accepted_next);
        sizes = none_larger d.written (r.index, size) d.size (omega arith) was.sizes;
        verified = omega (arith, verified, verified_before, one);
        stands = omega (arith, stands, stands_before);
        light = omega (arith, light, light_before, marks);
        few_marks = omega (arith, few_before, marks, single);
        stops = omega (arith, stops, stops_before);
        few_stops = omega (arith, few_stops, few_stops_before);
      }
