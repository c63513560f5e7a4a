-- A state machine and the journal of its records.
use Rattle.std.specs.Prelude.{◌≡◌, ◌-◌, false, List, Some, option_map, IfSome, Result, Ok}
use Rattle.byte_formats.specs.Types.{Text}
use Rattle.disk_core.specs.Times.{OnlyReads}
use Rattle.disk_core.specs.declared.disk.Disk.{Ghosts}
use Rattle.journal_core.specs.Ends.{durable_records}
use Rattle.journal_core.specs.Folds.{Fold, state_after, read_by}
use Rattle.journal_core.specs.Format.{Represents, end_offset, records_of}
use Rattle.journal_core.specs.Openings.{next_offset, read_list}
use Rattle.journal_core.specs.Owners.{Owner, OwnerAppends, owner_over}
use Rattle.journal_core.specs.Readings.{HasFolded, HasFound}
use Rattle.journal_core.specs.Words.{AllRepresent, disk_of, end_of, is_broken}
use Rattle.journal_core.specs.declared.error.AppendError.{AppendError}
use Rattle.journal_core.specs.declared.journal.Journal.{Journal}
use Rattle.journal_core.specs.declared.opening.Opening.{Opening}
use Rattle.state_journal.specs.Durable.{IsDurableWith}
use Rattle.state_journal.specs.declared.error.StateOpenError.{StateOpenError}
use Rattle.state_journal.specs.declared.error.StateOpenError.TheVariants.{BadRecord, Open}
use Rattle.state_journal.specs.declared.machine.StateMachine.{Ghosts as Machines}

module _ {M X R : Type 0} (m : Machines M X R) where
  -- A machine as a kind of journal.
  abbrev pub fold_of : Fold m.State StateOpenError
  fold_of =
      record { begins = m.begins; takes = m.takes; bad_record = BadRecord; not_read = Open }

  -- these records make the machine
  pub record Makes (it : M) (list : List Text) : Type 0 where
    pub made : state_after fold_of list ≡ Ok (m.state it)
    pub keeps : m.Keeps it list

  module _ {D : Type 0} {g : Ghosts D} where
    -- The machine is what the records before the end of the journal make, if the model knows the
    -- bytes of the disk. Over any disk, what it says of offsets holds at the commit byte before
    -- that end.
    pub record IsMadeBy (journal : Journal D g) (it : M) : Type 0 where
      pub durable : (b : Text) → g.contents (disk_of journal) ≡ Some b
          → IsDurableWith (Makes it) (end_of journal) b
      pub within : m.Within it (end_of journal - 1)

    -- what the two show as the owner of the journal
    abbrev pub machine_owner : Journal D g → M → Owner D m.State
    machine_owner journal it = owner_over journal (durable_records journal) (m.state it)

    -- what a call does that appends this record, which makes this state of the old one
    abbrev pub HasTakenAppended : Text → Journal D g → M → Journal D g → M
        → Result (Unit {0}) AppendError → m.State → Type 0
    HasTakenAppended body old was new now result next =
        OwnerAppends g (λ why. Some why) body next (machine_owner old was)
        (machine_owner new now) result

    -- A journal that was opened, with the machine that its records make.
    pub record HasOpenedMachine (disk : D) (journal : Journal D g) (it : M) : Type 0 where
      pub sound : is_broken journal ≡ false
      pub only_reads : OnlyReads g disk (disk_of journal)
      pub fine : g.faults (disk_of journal) ≡ g.faults disk
      pub list : durable_records journal ≡ option_map records_of (g.contents (disk_of journal))
      pub found : IfSome (g.contents disk) (λ b. IfSome (durable_records journal)
          (λ list. read_by fold_of b ≡ Ok (record { records = list; state = m.state it })))
      pub made : IfSome (durable_records journal)
          (λ list. state_after fold_of list ≡ Ok (m.state it))
      pub stands : IfSome (g.contents (disk_of journal))
          (λ b. IfSome (durable_records journal) (Represents b))
      pub all : IfSome (durable_records journal) (AllRepresent g (disk_of journal))
      pub end : IfSome (durable_records journal) (λ list. end_of journal ≡ end_offset list)

    -- the records that were read make the machine
    pub record HasTaken (it : M) (opening : Opening D g) : Type 0 where
      pub folded : HasFolded fold_of (m.state it) opening
      pub keeps : IfSome (read_list opening) (m.Keeps it)
      pub within : m.Within it (next_offset opening)

    -- all records were read up to the closed commit byte, and they make the machine
    pub record HasTakenAll (it : M) (opening : Opening D g) : Type 0 where
      pub found : HasFound fold_of (m.state it) opening
      pub keeps : IfSome (read_list opening) (m.Keeps it)
      pub within : m.Within it (next_offset opening)
