-- What a log on devices in memory shows, after calls that only read them and after one that adds a
-- record.
use Rattle.std.proofs.Common.{◌≡◌, ◌∙◌, Bool, List, [], ◌∷◌, ◌++◌, Ok, true, refl, sym, ap, subst}
use Rattle.std.proofs.lemmas.Option.{same_Some}
use Rattle.byte_formats.specs.Types.{Text, HashFunction}
use Rattle.disk_core.specs.Memory.{bytes_of}
use Rattle.disk_core.specs.Noted.{made_calls}
use Rattle.disk_core.specs.ReplayLaws.{contents_seen, since_now}
use Rattle.disk_core.specs.contracts.memory.mem_disk.MemDiskDisk.TheImpl.{ghosts as disks}
use Rattle.disk_core.specs.declared.memory.mem_disk.MemDisk.{MemDisk}
use Rattle.tree_core.specs.declared.hashing.TreeHash.{Ghosts as Hashes}
use Rattle.journal_core.proofs.Records.{records_of-stands}
use Rattle.journal_core.specs.Ends.{durable_of}
use Rattle.journal_core.specs.Format.{Represents}
use Rattle.journal_core.specs.Words.{AllRepresent}
use Rattle.issuance_log.proofs.Asked.{asks_stays, modelled_stays}
use Rattle.issuance_log.specs.Folds.{LogState, LogView, log_of}
use Rattle.issuance_log.specs.Words.{LogAsksTiles, LogStays, log_disk, log_end, view_of}
use Rattle.issuance_log.specs.declared.log.Log.{Log}
use Rattle.drill_core.specs.Calls.{HasCalledLog, log_called, made_by, record_of}
use Rattle.drill_core.specs.Parties.{IsLogDisk, log_seen}
use Rattle.drill_parties.specs.Disks.{records_on}
use Rattle.drill_core.specs.declared.calls.LogCall.{LogCall}

-- since this time a crash leaves nothing else
pub mem_now : (m : MemDisk) (c : Text) → disks.left_since m (disks.clock_at m) c
    → disks.may_leave m c
mem_now m c is = since_now m.past.first (made_calls m.past.calls) c is

-- what a read gives is a crash state
mem_read : (m : MemDisk) → disks.may_leave m (bytes_of m)
mem_read m =
    contents_seen m.past.first (made_calls m.past.calls) (bytes_of m) m.past.are_bytes refl

-- a disk each crash state of which represents records that make this log
pub is_log_disk : (h : HashFunction) (s : LogState) (disk : MemDisk) (list : List Text)
    → AllRepresent disks disk list → log_of h list ≡ Ok s → IsLogDisk h s disk
is_log_disk h s disk list all valid =
    let holds : Represents (bytes_of disk) list = all (bytes_of disk) (mem_read disk) in
    let same : records_on disk ≡ list = records_of-stands (bytes_of disk) list holds in
    record {
      holds = subst (λ (l : List Text). Represents (bytes_of disk) l) (sym same) holds;
      crash_states = λ c there. subst (λ (l : List Text). Represents c l) (sym same) (all c there);
      valid = ap (log_of h) same ∙ valid;
    }

module _ {H : Type 0} {hashes : Hashes H} where
  pub seen_stays : (old new : Log H MemDisk MemDisk hashes disks disks) → LogStays old new
      → log_seen new ≡ log_seen old
  seen_stays old new is = same_Some (log_seen new) (log_seen old) (modelled_stays old new is)

  -- nodes alone were asked for
  pub nodes_stay : (old new : Log H MemDisk MemDisk hashes disks disks) → LogAsksTiles old new
      → LogStays old new
  nodes_stay old new is = asks_stays old new (mem_now (log_disk old)) is

  pub still_stands : (h : HashFunction) (old new : Log H MemDisk MemDisk hashes disks disks)
      → LogStays old new → IsLogDisk h (log_seen old) (log_disk old)
      → IsLogDisk h (log_seen new) (log_disk new)
  still_stands h old new stays is = is_log_disk h (log_seen new) (log_disk new)
      (records_on (log_disk old)) (λ c there. is.crash_states c (stays.only_reads.crash c there))
      (is.valid ∙ ap Ok (sym (seen_stays old new stays)))

  -- a call was done that adds a record
  module _ (h : HashFunction) (call : LogCall) (old new : Log H MemDisk MemDisk hashes disks disks)
      (done : Bool) (is : done ≡ true) (called : HasCalledLog h call old new done) where
    seen_made : log_seen new ≡ made_by h (view_of old) call (log_seen old)
    seen_made = same_Some (log_seen new) (made_by h (view_of old) call (log_seen old))
        (called.grown is).contents

    pub seen_called : log_seen new ≡ log_called h (log_seen old) call
    seen_called =
        seen_made ∙ ap (λ (v : LogView). made_by h v call (log_seen old)) (sym called.view)

    pub called_stands : IsLogDisk h (log_seen new) (log_disk new)
    called_stands = is_log_disk h (log_seen new) (log_disk new)
        (durable_of (log_end old) (bytes_of (log_disk old)) ++ record_of h (view_of old) call ∷ [])
        (called.grown is).kept (called.valid ∙ ap Ok (sym seen_made))
