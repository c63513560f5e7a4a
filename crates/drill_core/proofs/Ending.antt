-- The end of a drill.
use Rattle.std.proofs.Common.{◌≡◌, ◌∙◌, ◌+◌, ◌*◌, ◌≤◌, ℕ, List, [], ◌∷◌, length, ap, sym, subst}
use Rattle.std.proofs.Common.{arith}
use Rattle.std.proofs.Common.{refl}
use Rattle.std.specs.List.{sum_by}
use Rattle.std.proofs.lemmas.List.Sums.{sum_by-cons}
use Rattle.byte_formats.specs.Types.{HashFunction, Text}
use Rattle.disk_core.specs.declared.memory.mem_disk.MemDisk.{MemDisk}
use Rattle.tree_core.specs.declared.hashing.TreeHash.{Ghosts as Hashes}
use Rattle.tree_proofs.specs.declared.checkpoint.Checkpoint.{Checkpoint}
use Rattle.issuance_log.specs.Folds.{LogState}
use Rattle.drill_parties.specs.CosignerViews.{IsDiskOf, cosigner_shown, records_shown}
use Rattle.drill_parties.specs.Cosigners.{Paired, keys_used}
use Rattle.drill_parties.specs.Disks.{records_on, signs_on}
use Rattle.drill_parties.specs.Rounds.{Drill, drill_of}
use Rattle.drill_parties.specs.declared.cosigner_party.CosignerParty.{CosignerParty}
use Rattle.drill_parties.proofs.Pairs.{paired_join, paired_with}
use Rattle.drill_parties.proofs.Signs.{signs_used}
use Rattle.drill_core.specs.Counts.{IsCounted}
use Rattle.drill_core.specs.DrillOutputs.{IsDrilled, IsDrillOutput, IsOutputOf}
use Rattle.drill_core.specs.Parties.{IsLogDisk}
use Rattle.drill_core.specs.Played.{AreWritten, HaveSigns, IsAfter, IsPartyAfter, NoneLarger}
use Rattle.drill_core.specs.Played.{cosigner_arcs}
use Rattle.drill_core.specs.declared.made.DrillOutput.{DrillOutput}
use Rattle.drill_core.specs.declared.parties.DrillParties.{DrillParties}
use Rattle.drill_core.proofs.EachStanding.{arcs_count, each_stands}
use Rattle.drill_core.proofs.EntryCounts.{entries_length}
use Rattle.drill_core.proofs.StandingAudits.{Counts}

module _ {H : Type 0} {hashes : Hashes H} (h : HashFunction) where
  -- as many Signs are on the disk as one-time keys are used
  used_on : (party : CosignerParty H hashes) (disk : MemDisk) → IsDiskOf h party disk
      → (cosigner_shown party).key.next ≡ signs_on disk
  used_on party disk is = signs_used h (records_on disk) (cosigner_shown party) is.stands.valid

  all_used : (parties : List (CosignerParty H hashes)) (disks : List MemDisk)
      → Paired (IsDiskOf h) parties disks → keys_used parties ≡ sum_by signs_on disks
  all_used [] [] are = refl
  all_used [] (d ∷ ds) are = absurd are
  all_used (n ∷ ns) [] are = absurd are
  all_used (n ∷ ns) (d ∷ ds) are =
      let keys = sum_by-cons (λ (x : CosignerParty H hashes). (cosigner_shown x).key.next) n ns
      in
      let signs = sum_by-cons signs_on d ds in
      let here = used_on n d are.0 in
      let rest = all_used ns ds are.1 in
      omega (arith, keys, signs, here, rest)

  -- each has used one in each round
  some_used : (number count : ℕ) (d : Drill) (arcs : List ℕ)
      (parties : List (CosignerParty H hashes))
      → Paired (IsPartyAfter h number count d) arcs parties
      → length arcs * count ≤ keys_used parties
  some_used number count d [] [] are = omega arith
  some_used number count d [] (n ∷ ns) are = absurd are
  some_used number count d (a ∷ others) [] are = absurd are
  some_used number count d (a ∷ others) (n ∷ ns) are =
      let keys = sum_by-cons (λ (x : CosignerParty H hashes). (cosigner_shown x).key.next) n ns
      in
      let here = are.0.within.signed in
      let rest = some_used number count d others ns are.1 in
      omega (arith, keys, here, rest)

  drilled : (number : ℕ) (d : Drill) (certs : List Text) → AreWritten h number certs d.written
      → NoneLarger d.size d.written → (arc : ℕ) (party : CosignerParty H hashes) (disk : MemDisk)
      → Counts number arc × IsPartyAfter h number 16 d arc party → IsDiskOf h party disk
      → IsDrilled h number d certs arc disk
  drilled number d certs written few arc party disk is out =
      let within = is.1.within in
      let signed = within.signed in
      let used = used_on party disk out in
      record {
        state = cosigner_shown party;
        stands = out.stands;
        fails_none = out.fails_none;
        id = within.id;
        log = within.log_id;
        size = ap (λ (c : Checkpoint). c.size) within.held;
        root = ap (λ (c : Checkpoint). c.root) within.held;
        key = within.key;
        signed = omega (arith, signed, used);
        audits = each_stands h number arc 16 d.size d.marks (cosigner_shown party) disk certs
            d.written out.stands is.0 within written few
            (subst (λ (list : List Text). HaveSigns h d.written list) (sym out.records)
            is.1.signs);
      }

module _ {H : Type 0} {hashes : Hashes H} (h : HashFunction) (number : ℕ)
    (parties : DrillParties H hashes) (f : DrillOutput) where
  counted : IsAfter h number 16 (drill_of number) parties → IsOutputOf h parties f
      → IsCounted number f.counts
  counted is out =
      let c = out.counts in
      let size = entries_length h (drill_of number).size in
      let used = all_used h parties.cosigners.parties.items f.cosigners.items out.cosigners in
      let some =
      some_used h number 16 (drill_of number) cosigner_arcs parties.cosigners.parties.items
      is.cosigners in
      let few = is.keys in
      let signatures = c.signatures in
      let stands = c.stands in
      let all = is.stands in
      record {
        entries = c.entries ∙ ap (λ (l : LogState). length l.entries) is.log ∙ size;
        landmarks = c.landmarks ∙ ap (λ (l : LogState). length l.marks) is.log;
        some_signatures = omega (arith, signatures, used, some);
        few_signatures = omega (arith, signatures, used, few);
        stops = c.stops ∙ is.stops;
        verified = c.verified ∙ is.verified;
        stands = omega (arith, stands, all);
        light = c.light ∙ is.light;
      }

  pub is_drill_output : IsAfter h number 16 (drill_of number) parties → IsOutputOf h parties f
      → IsDrillOutput h number f
  is_drill_output is out =
      let d : Drill = drill_of number in
      let certs : AreWritten h number f.certs d.written =
      subst (λ (list : List Text). AreWritten h number list d.written) (sym out.certs) is.certs in
      record {
        log = subst (λ (s : LogState). IsLogDisk h s f.log) is.log out.log;
        fails_none = out.fails_none;
        cosigners =
            paired_join (λ arc party. Counts number arc × IsPartyAfter h number 16 d arc party)
            (IsDiskOf h) (IsDrilled h number d f.certs)
            (drilled h number d f.certs certs is.sizes) cosigner_arcs
            parties.cosigners.parties.items
            f.cosigners.items (paired_with (Counts number) (IsPartyAfter h number 16 d)
            cosigner_arcs parties.cosigners.parties.items (arcs_count number) is.cosigners)
            out.cosigners;
        certs = certs;
        counted = counted is out;
        signatures = out.counts.signatures;
      }
