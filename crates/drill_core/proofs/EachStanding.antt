-- The audits of the certificates of a drill with the records of a cosigner.
use Rattle.std.proofs.Common.{◌≡◌, ◌+◌, ◌≤◌, ℕ, suc, List, [], ◌∷◌, ◌++◌, length, arith, refl}
use Rattle.std.proofs.Common.{subst}
use Rattle.byte_formats.specs.Offsets.{IsBytes}
use Rattle.byte_formats.specs.Types.{HashFunction, Text}
use Rattle.disk_core.specs.Memory.{bytes_of, calls_of}
use Rattle.disk_core.specs.ReplayLaws.{contents_are}
use Rattle.disk_core.specs.declared.memory.mem_disk.MemDisk.{MemDisk}
use Rattle.tree_core.specs.Tree.{tree_hash}
use Rattle.tree_core.specs.declared.hashing.TreeHash.{Ghosts as Hashes}
use Rattle.std.specs.List.{AllByRecursion}
use Rattle.cosigner_core.specs.Words.{cosigner_disk}
use Rattle.drill_parties.specs.CosignerViews.{cosigner_shown, records_shown}
use Rattle.drill_parties.specs.Cosigners.{Paired}
use Rattle.drill_parties.specs.Rounds.{Drill, following_round, marks_after}
use Rattle.drill_parties.specs.declared.cosigner_party.CosignerParty.{CosignerParty}
use Rattle.drill_parties.specs.declared.round.Round.{Round}
use Rattle.drill_core.specs.AuditViews.{AllStand}
use Rattle.issuance_log.specs.Folds.{LogState}
use Rattle.cosigner_core.specs.Folds.{CosignerState}
use Rattle.drill_core.specs.Audits.{StandsWith}
use Rattle.drill_parties.specs.CosignerParties.{HasMore, HasSign, IsCosignerDisk}
use Rattle.drill_core.specs.Entries.{entries_to, log_with}
use Rattle.drill_core.specs.DrillOutputs.{EachStands}
use Rattle.drill_parties.specs.Disks.{records_on}
use Rattle.drill_core.specs.Played.{AreWritten, IsCosignerWithin, IsPartyAfter, IsWrittenOf}
use Rattle.drill_core.specs.Played.{cosigner_arcs}
use Rattle.drill_core.specs.Stores.{IsAcceptedByAll, drill_store}
use Rattle.drill_core.specs.Played.{HaveSigns, NoneLarger}
use Rattle.drill_parties.proofs.CosignerStops.{sign_stays}
use Rattle.drill_core.proofs.EntryCounts.{entries_length}
use Rattle.drill_core.proofs.StandingAudits.{Counts, audit_stands, first_is_counted}
use Rattle.drill_core.proofs.StandingAudits.{second_is_counted}
use Rattle.drill_core.proofs.StandingAudits.{third_is_counted}

-- ---- the Signs

signs_next : (h : HashFunction) (written : List (ℕ × ℕ)) (w : ℕ × ℕ) (before after : List Text)
    → HasMore before after → HaveSigns h written before
    → HasSign 0 w.1 (tree_hash h (entries_to h w.1)) after
    → HaveSigns h (written ++ w ∷ []) after
signs_next h [] w before after more signs sign = (sign, tt)
signs_next h (v ∷ vs) w before after more signs sign = (
  sign_stays 0 v.1 (tree_hash h (entries_to h v.1)) before after more signs.0,
  signs_next h vs w before after more signs.1 sign,
)

-- the Sign of all of a log with so many entries
pub sign_at : (h : HashFunction) (size : ℕ) (marks : List ℕ) (log : LogState) (list : List Text)
    → log ≡ log_with h size marks → HasSign 0 (length log.entries) (tree_hash h log.entries) list
    → HasSign 0 size (tree_hash h (entries_to h size)) list
sign_at h size marks log list same sign =
    subst (λ (n : ℕ). HasSign 0 n (tree_hash h (entries_to h size)) list) (entries_length h size)
    (subst (λ (l : LogState). HasSign 0 (length l.entries) (tree_hash h l.entries) list) same sign)

-- a round more, in which all of the log was signed
pub signs_more : (h : HashFunction) (written : List (ℕ × ℕ)) (index size : ℕ) (marks : List ℕ)
    (log : LogState) (before after : List Text) → log ≡ log_with h size marks
    → HasMore before after → HaveSigns h written before
    → HasSign 0 (length log.entries) (tree_hash h log.entries) after
    → HaveSigns h (written ++ (index, size) ∷ []) after
signs_more h written index size marks log before after same more signs sign =
    signs_next h written (index, size) before after more signs
    (sign_at h size marks log after same sign)

pub none_larger : (written : List (ℕ × ℕ)) (w : ℕ × ℕ) (before : ℕ) → before ≤ w.1
    → NoneLarger before written → NoneLarger w.1 (written ++ w ∷ [])
none_larger [] w before less few = (omega arith, tt)
none_larger (v ∷ vs) w before less few =
    let here = few.0 in (omega (arith, here, less), none_larger vs w before less few.1)

-- ---- the audits

module _ (h : HashFunction) (number arc count larger : ℕ) (marks : List ℕ) (s : CosignerState)
    (disk : MemDisk) where
  -- of a certificate that was written at a size, with the log at one that is no smaller
  pub one_stands : (size index : ℕ) (cert : Text) → IsCosignerDisk h s disk → Counts number arc
      → IsCosignerWithin number arc count
      (record { size = larger; root = tree_hash h (entries_to h larger) }) s
      → size ≤ larger → IsWrittenOf h (log_with h size []) index cert
      → IsAcceptedByAll h number index size cert
      → HasSign 0 size (tree_hash h (entries_to h size)) (records_on disk)
      → StandsWith h (drill_store number) cert (log_with h larger marks) s (records_on disk)
  one_stands size index cert stands counts is within written accepted sign =
      let are : IsBytes (bytes_of disk) =
      contents_are disk.past.first (calls_of disk) (bytes_of disk) disk.past.are_bytes refl in
      audit_stands h number arc size larger index marks cert s (bytes_of disk) (records_on disk)
      within written accepted counts is.id is.log_id is.key is.held are stands.holds stands.valid
      sign

  -- of all certificates
  pub each_stands : (certs : List Text) (written : List (ℕ × ℕ)) → IsCosignerDisk h s disk
      → Counts number arc
      → IsCosignerWithin number arc count
      (record { size = larger; root = tree_hash h (entries_to h larger) }) s
      → AreWritten h number certs written → NoneLarger larger written
      → HaveSigns h written (records_on disk)
      → EachStands h number certs (log_with h larger marks) s (records_on disk)
  each_stands [] [] stands counts is are few signs = tt
  each_stands [] (w ∷ ws) stands counts is are few signs = absurd are
  each_stands (c ∷ cs) [] stands counts is are few signs = absurd are
  each_stands (c ∷ cs) (w ∷ ws) stands counts is are few signs = (
    one_stands w.1 w.0 c stands counts is few.0 are.0.0 are.0.1 signs.0,
    each_stands cs ws stands counts is are.1 few.1 signs.1,
  )

-- ---- the cosigners

-- each counts where all three do
pub arcs_count : (number : ℕ) → AllByRecursion (Counts number) cosigner_arcs
arcs_count number =
    (first_is_counted number, (second_is_counted number, (third_is_counted number, tt)))

last_sign : (h : HashFunction) (written : List (ℕ × ℕ)) (w : ℕ × ℕ) (list : List Text)
    → HaveSigns h (written ++ w ∷ []) list → HasSign 0 w.1 (tree_hash h (entries_to h w.1)) list
last_sign h [] w list signs = signs.0
last_sign h (v ∷ vs) w list signs = last_sign h vs w list signs.1

-- the audit of the certificate of a round with the records of each
pub all_stand : {H : Type 0} {hashes : Hashes H} (h : HashFunction) (number count next : ℕ)
    (d : Drill) (r : Round) (arcs : List ℕ) (parties : List (CosignerParty H hashes)) (cert : Text)
    → AllByRecursion (Counts number) arcs
    → Paired (IsPartyAfter h number (suc count) (following_round d r next)) arcs parties
    → AllByRecursion
    (λ party. IsCosignerDisk h (cosigner_shown party) (cosigner_disk party.cosigner))
    parties
    → IsWrittenOf h (log_with h (d.size + length r.entries) []) r.index cert
    → IsAcceptedByAll h number r.index (d.size + length r.entries) cert
    → AllStand h (drill_store number) cert (log_with h (d.size + length r.entries)
    (marks_after d.marks r.landmark (d.size + length r.entries))) parties
all_stand h number count next d r [] [] cert counts are disks written accepted = tt
all_stand h number count next d r [] (n ∷ ns) cert counts are disks written accepted = absurd are
all_stand h number count next d r (a ∷ others) [] cert counts are disks written accepted =
    absurd are
all_stand h number count next d r (a ∷ others) (n ∷ ns) cert counts are disks written accepted =
    let size : ℕ = d.size + length r.entries in (
      one_stands h number a (suc count) size (marks_after d.marks r.landmark size)
          (cosigner_shown n) (cosigner_disk n.cosigner) size r.index cert disks.0 counts.0
          are.0.within (omega arith) written accepted
          (last_sign h d.written (r.index, size) (records_shown n) are.0.signs),
      all_stand h number count next d r others ns cert counts.1 are.1 disks.1 written accepted,
    )
