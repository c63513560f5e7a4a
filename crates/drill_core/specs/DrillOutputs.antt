-- What a drill leaves.
use Rattle.std.specs.Prelude.{◌≡◌, ◌≤◌, ℕ, List, length, None}
use Rattle.std.specs.List.{AllByRecursion, sum_by}
use Rattle.byte_formats.specs.Types.{HashFunction, Text}
use Rattle.lmots_core.specs.declared.parameters.OtsType.TheVariants.{W4}
use Rattle.lms_core.specs.declared.heights.LmsType.TheVariants.{H5}
use Rattle.hss_keys.specs.Keys.{signing_key}
use Rattle.tree_core.specs.Tree.{tree_hash}
use Rattle.tree_core.specs.declared.hashing.TreeHash.{Ghosts as Hashes}
use Rattle.cosigner_core.specs.Folds.{CosignerState}
use Rattle.disk_core.specs.declared.memory.mem_disk.MemDisk.{MemDisk}
use Rattle.issuance_log.specs.Folds.{LogState}
use Rattle.drill_parties.specs.CosignerParties.{IsCosignerDisk, secret_of}
use Rattle.drill_parties.specs.CosignerViews.{IsDiskOf}
use Rattle.drill_parties.specs.Cosigners.{Paired}
use Rattle.drill_parties.specs.Disks.{FailsNone, records_on, signs_on}
use Rattle.drill_parties.specs.Ids.{drill_log_id, id_of}
use Rattle.drill_parties.specs.Rounds.{Drill, drill_of}
use Rattle.drill_core.specs.Audits.{StandsWith}
use Rattle.drill_core.specs.Counts.{IsCounted}
use Rattle.drill_core.specs.Entries.{entries_to, log_with}
use Rattle.drill_core.specs.LogParties.{log_shown}
use Rattle.drill_core.specs.Parties.{IsLogDisk}
use Rattle.drill_core.specs.Played.{AreWritten, all_stops, cosigner_arcs}
use Rattle.drill_core.specs.Stores.{drill_store}
use Rattle.drill_core.specs.declared.made.Counts.{Counts}
use Rattle.drill_core.specs.declared.made.DrillOutput.{DrillOutput}
use Rattle.drill_core.specs.declared.parties.DrillParties.{DrillParties}

-- The audit of each of these certificates with the items of a log and the records of a cosigner
-- finds the entry at its index.
abbrev pub EachStands : HashFunction → ℕ → List Text → LogState → CosignerState → List Text → Type 0
EachStands h number certs log s list =
    AllByRecursion (λ cert. StandsWith h (drill_store number) cert log s list) certs

-- The disk of a cosigner after a drill: all that a crash may leave of it represents records that
-- make a cosigner with this id and secret. It holds all of the log, and at least sixteen of its
-- one-time keys are used. The audit of each certificate with its records finds the entry.
pub record IsDrilled (h : HashFunction) (number : ℕ) (d : Drill) (certs : List Text) (arc : ℕ)
    (disk : MemDisk) : Type 0 where
  pub state : CosignerState
  pub stands : IsCosignerDisk h state disk
  pub fails_none : FailsNone disk
  pub id : state.id ≡ id_of arc
  pub log : state.log ≡ drill_log_id
  pub size : state.held.size ≡ d.size
  pub root : state.held.root ≡ tree_hash h (entries_to h d.size)
  pub key : state.key.key ≡ signing_key H5 None W4 (secret_of arc number)
  pub signed : 16 ≤ signs_on disk
  pub audits : EachStands h number certs (log_with h d.size d.marks) state (records_on disk)

-- What the drill with a number answers. All that a crash may leave of the log's disk represents
-- records that make the log with the entries and the landmarks that are drawn; likewise the disks
-- of the cosigners 32473.2 to 32473.4, in this order. Each certificate is of the index and the size
-- that are drawn, and is accepted by all three cosigners. The numbers are those of the drill, and
-- the signatures are the Signs on the disks of the cosigners.
pub record IsDrillOutput (h : HashFunction) (number : ℕ) (f : DrillOutput) : Type 0 where
  pub log : IsLogDisk h (log_with h (drill_of number).size (drill_of number).marks) f.log
  pub fails_none : FailsNone f.log
  pub cosigners : Paired (IsDrilled h number (drill_of number) f.certs) cosigner_arcs
      f.cosigners.items
  pub certs : AreWritten h number f.certs (drill_of number).written
  pub counted : IsCounted number f.counts
  pub signatures : f.counts.signatures ≡ sum_by signs_on f.cosigners.items

module _ {H : Type 0} {hashes : Hashes H} where
  -- The numbers are those of the parties, with so many Signs.
  pub record AreOf (parties : DrillParties H hashes) (signs : ℕ) (c : Counts) : Type 0 where
    pub entries : c.entries ≡ length (log_shown parties.log).entries
    pub landmarks : c.landmarks ≡ length (log_shown parties.log).marks
    pub signatures : c.signatures ≡ signs
    pub stops : c.stops ≡ all_stops parties
    pub verified : c.verified ≡ parties.verified
    pub stands : c.stands ≡ parties.stands
    pub light : c.light ≡ parties.light

  -- The disks of the parties go to the caller: each represents the records of its party.
  pub record IsOutputOf (h : HashFunction) (parties : DrillParties H hashes) (f : DrillOutput) :
      Type 0 where
    pub log : IsLogDisk h (log_shown parties.log) f.log
    pub fails_none : FailsNone f.log
    pub cosigners : Paired (IsDiskOf h) parties.cosigners.parties.items f.cosigners.items
    pub certs : f.certs ≡ parties.certs.items
    pub counts : AreOf parties (sum_by signs_on f.cosigners.items) f.counts
