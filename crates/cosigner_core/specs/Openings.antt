-- What is read of a file that is opened as a cosigner's.
use Rattle.std.specs.Prelude.{◌≡◌, false, option_map, IfSome, Ok, Result}
use Rattle.byte_formats.specs.Types.{Text, HashFunction}
use Rattle.disk_core.specs.Times.{OnlyReads}
use Rattle.disk_core.specs.declared.disk.Disk.{Ghosts}
use Rattle.journal_core.specs.Folds.{Found, read_by}
use Rattle.journal_core.specs.Format.{Represents, end_offset, records_of}
use Rattle.journal_core.specs.Owners.{Owner}
use Rattle.journal_core.specs.Words.{AllRepresent}
use Rattle.state_journal.specs.Causes.{CountsNoOther, HasStateCause}
use Rattle.state_journal.specs.declared.error.StateOpenError.{StateOpenError}
use Rattle.cosigner_core.specs.Folds.{CosignerState, cosigner_fold, cosigner_of}

-- a cosigner that was read, and the records of its journal
abbrev pub FoundCosigner : Type 0
FoundCosigner = Found CosignerState

-- The cosigner in a file with these bytes, or the first fault.
abbrev pub cosigner_read : HashFunction → Text → Result FoundCosigner StateOpenError
cosigner_read h bytes = read_by (cosigner_fold h) bytes

-- the cause of a refusal, over the disk before the call and after it: the bytes, a failure, or
-- memory that ran out
abbrev pub HasCosignerCause : {D : Type 0} → Ghosts D → HashFunction → D → D → StateOpenError
    → Type 0
HasCosignerCause g h old new why = HasStateCause g (cosigner_fold h) old new why

-- no failure was counted, unless it is the refusal
abbrev pub CosignerCountsNoOther : {D : Type 0} → Ghosts D → D → D → StateOpenError → Type 0
CosignerCountsNoOther g old new why = CountsNoOther g old new why

-- What an opened cosigner shows, over the disk before the call: no append has failed, and the disk
-- was only read, without a fault. If the model knows its bytes, they are read as these records and
-- this cosigner, which the records make; the bytes and each crash state of the disk represent the
-- records; and the journal ends after them.
pub record CosignerIsOpened {D : Type 0} (g : Ghosts D) (h : HashFunction) (disk : D)
    (it : Owner D CosignerState) : Type 0 where
  pub sound : it.broken ≡ false
  pub only_reads : OnlyReads g disk it.disk
  pub fine : g.faults it.disk ≡ g.faults disk
  pub list : it.records ≡ option_map records_of (g.contents it.disk)
  pub found : IfSome (g.contents disk) (λ b. IfSome it.records
      (λ list. cosigner_read h b ≡ Ok (record { records = list; state = it.state })))
  pub valid : IfSome it.records (λ list. cosigner_of h list ≡ Ok it.state)
  pub stands : IfSome (g.contents it.disk) (λ b. IfSome it.records (Represents b))
  pub all : IfSome it.records (AllRepresent g it.disk)
  pub end : IfSome it.records (λ list. it.end ≡ end_offset list)

-- The disk was only read. The refusal has its cause, and no other failure was counted.
pub record CosignerIsNotOpened {D : Type 0} (g : Ghosts D) (h : HashFunction) (old new : D)
    (why : StateOpenError) : Type 0 where
  pub only_reads : OnlyReads g old new
  pub cause : HasCosignerCause g h old new why
  pub fine : CosignerCountsNoOther g old new why
