-- What a journal and its opening keep of their disk.
use Rattle.std.specs.Prelude.{◌≡◌, ℕ, ◌+◌, List, [], ◌∷◌, length, take}
use Rattle.std.proofs.Props.{props}
use Rattle.byte_formats.specs.Types.{Text}
use Rattle.disk_core.specs.Disk.{Only}
use Rattle.journal_core.specs.Format.{header, IsRecordAt, AreRecordsAt, following, end_offset}
use Rattle.journal_core.specs.Format.{IsClosedAt, Represents, records_of, records_before}

-- the bytes represent their records, all of it is on the disk, and `end` is the offset after the
-- closed commit byte
pub record IsDurable (bytes : Text) (crash_states : Text → Type 0) (end : ℕ) : Type 0 where
  pub stands : Represents bytes (records_of bytes)
  pub end_is : end ≡ end_offset (records_of bytes)
  pub only : Only bytes crash_states

-- the records before an offset were read, in a file of which everything is on the disk
pub record IsReading (bytes : Text) (crash_states : Text → Type 0) (place : ℕ) : Type 0 where
  pub begins : take 16 bytes ≡ header
  pub holds : AreRecordsAt bytes 16 (records_before bytes place)
  pub offset_is : place ≡ following 16 (records_before bytes place)
  pub only : Only bytes crash_states

-- each has one proof at most
pub IsRecordAt-prop : (bytes : Text) (place : ℕ) (body : Text)
    → IsProp (IsRecordAt bytes place body)
IsRecordAt-prop bytes place body = hlevel props

pub AreRecordsAt-prop : (bytes : Text) (place : ℕ) (records : List Text)
    → IsProp (AreRecordsAt bytes place records)
AreRecordsAt-prop bytes place [] = hlevel props
AreRecordsAt-prop bytes place (body ∷ records) =
    hlevel (
      props,
      IsRecordAt-prop bytes place body,
      AreRecordsAt-prop bytes (place + 5 + length body) records,
    )

pub IsClosedAt-prop : (bytes : Text) (place : ℕ) → IsProp (IsClosedAt bytes place)
IsClosedAt-prop bytes place = hlevel props

pub Represents-prop : (bytes : Text) (records : List Text) → IsProp (Represents bytes records)
Represents-prop bytes records =
    hlevel (props, AreRecordsAt-prop bytes 16 records, IsClosedAt-prop bytes (following 16 records))

pub Represents-records-prop : (bytes : Text) → IsProp (Represents bytes (records_of bytes))
Represents-records-prop bytes = Represents-prop bytes (records_of bytes)

pub IsDurable-prop : (bytes : Text) (crash_states : Text → Type 0) (end : ℕ)
    → IsProp (IsDurable bytes crash_states end)
IsDurable-prop bytes crash_states end = hlevel (props, Represents-prop bytes (records_of bytes))

pub IsReading-prop : (bytes : Text) (crash_states : Text → Type 0) (place : ℕ)
    → IsProp (IsReading bytes crash_states place)
IsReading-prop bytes crash_states place =
    hlevel (props, AreRecordsAt-prop bytes 16 (records_before bytes place))
