-- What the calls of a log refuse, as functions of what it shows.
use Rattle.std.specs.Prelude.{◌≡◌, ◌≢◌, ℕ, ◌+◌, ◌*◌, ◌/◌, ◌==◌, nat_le, nat_lt, Bool, List, []}
use Rattle.std.specs.Prelude.{length}
use Rattle.std.specs.Prelude.{slice_index_or, Option, Some, None, option_map, Result, Ok, Err}
use Rattle.std.specs.Prelude.{if◌then◌else◌}
use Rattle.byte_formats.specs.Types.{Text}
use Rattle.journal_core.specs.Format.{most_bytes}
use Rattle.journal_core.specs.declared.error.AppendError.{AppendError}
use Rattle.journal_core.specs.declared.error.AppendError.TheVariants as append_error
use Rattle.issuance_log.specs.Batches.{fitting, has_large, most_listed}
use Rattle.issuance_log.specs.Folds.{LogState, LogView}
use Rattle.issuance_log.specs.Marks.{last_mark}
use Rattle.issuance_log.specs.Records.{batch_record, entry_record, landmark_record, switch_record}
use Rattle.issuance_log.specs.Records.{tiles_record}
use Rattle.issuance_log.specs.Settings.{most_item}
use Rattle.issuance_log.specs.declared.error.LogError.{LogError}
use Rattle.issuance_log.specs.declared.error.LogError.TheVariants.{Full, TooLarge, NoSuchEntry}
use Rattle.issuance_log.specs.declared.error.LogError.TheVariants.{NothingNew, Failed, Append}
use Rattle.issuance_log.specs.declared.error.LogError.TheVariants.{AlreadySwitched, Memory, TooMany}

-- The refusal of a record that the journal determines, the first that holds: of a journal that an
-- append has broken, and of one whose file would pass 2^33 bytes.
abbrev pub append_refusal : Bool → ℕ → Text → Option AppendError
append_refusal broken end body =
    if broken then Some append_error.Broken
    else (if nat_lt most_bytes (end + 5 + length body) then Some append_error.Full else None)

-- The refusal of an item that the log and its journal determine, the first that holds: of a full
-- log, of an entry and key that are too large together, and what the journal refuses.
unfoldable pub add_refusal : LogView → Bool → ℕ → Text → Text → Option LogError
add_refusal v broken end entry key =
    if v.size == v.settings.limit then Some Full
    else (if nat_lt most_item (length entry + length key) then Some TooLarge
    else option_map Append (append_refusal broken end (entry_record entry key)))

-- The refusal of items that are added together, the first that holds: where the log would have more
-- entries than its limit allows, of more than a record holds, with how many of the first fit one,
-- of an entry and key that are too large together, and what the journal refuses.
unfoldable pub batch_refusal : LogView → Bool → ℕ → List (Text × Text) → Option LogError
batch_refusal v broken end items =
    if nat_lt v.settings.limit (v.size + length items) then Some Full
    else (if nat_lt (fitting most_listed items) (length items)
    then Some (TooMany (fitting most_listed items))
    else (if has_large items then Some TooLarge
    else option_map Append (append_refusal broken end (batch_record items))))

-- The refusal of a landmark: of one at the size of the last one, and what the journal refuses.
unfoldable pub mark_refusal : LogView → Bool → ℕ → Option LogError
mark_refusal v broken end =
    if last_mark v.marks == v.size then Some NothingNew
    else option_map Append (append_refusal broken end (landmark_record v.size))

-- the greatest multiple of 256 that isn't above the size
abbrev pub full_size : LogView → ℕ
full_size v = v.size / 256 * 256

-- The refusal of tiles: where this number isn't above the last size of tiles, and what the journal
-- refuses.
unfoldable pub tile_refusal : LogView → Bool → ℕ → Option LogError
tile_refusal v broken end =
    if nat_le (full_size v) v.tiled then Some NothingNew
    else option_map Append (append_refusal broken end (tiles_record (full_size v)))

-- What is refused of a log that was switched, and else what the journal refuses.
abbrev pub unless_switched : Option ℕ → Option AppendError → Option LogError
unless_switched (Some index) refusal = Some (AlreadySwitched index)
unless_switched None refusal = option_map Append refusal

-- The refusal of a switch: of a log that was switched, and what the journal refuses.
unfoldable pub switch_refusal : LogView → Bool → ℕ → Option LogError
switch_refusal v broken end =
    unless_switched v.switched (append_refusal broken end (switch_record v.size))

-- The answer to an item follows its refusal. Memory may be refused after the first two tests, and a
-- failure reported if there is no refusal.
abbrev pub ItemKeepsTo : Option LogError → Result ℕ LogError → Type 0
ItemKeepsTo wanted (Ok index) = wanted ≡ None
ItemKeepsTo wanted (Err Full) = wanted ≡ Some Full
ItemKeepsTo wanted (Err TooLarge) = wanted ≡ Some TooLarge
ItemKeepsTo wanted (Err (Append append_error.Failed)) = wanted ≡ None
ItemKeepsTo wanted (Err (Append append_error.Broken)) = wanted ≡ Some (Append append_error.Broken)
ItemKeepsTo wanted (Err (Append append_error.Full)) = wanted ≡ Some (Append append_error.Full)
ItemKeepsTo wanted (Err Memory) = (wanted ≢ Some Full) × (wanted ≢ Some TooLarge)
ItemKeepsTo wanted (Err other) = ⊥

-- It is none of those that the items and what the log shows determine.
pub record IsOfJournal (wanted : Option LogError) : Type 0 where
  pub not_full : wanted ≢ Some Full
  pub not_many : (count : ℕ) → wanted ≢ Some (TooMany count)
  pub not_large : wanted ≢ Some TooLarge

-- The answer to items that are added together follows their refusal. Memory may be refused after
-- the first three tests.
abbrev pub BatchKeepsTo : Option LogError → Result ℕ LogError → Type 0
BatchKeepsTo wanted (Ok index) = wanted ≡ None
BatchKeepsTo wanted (Err Full) = wanted ≡ Some Full
BatchKeepsTo wanted (Err (TooMany count)) = wanted ≡ Some (TooMany count)
BatchKeepsTo wanted (Err TooLarge) = wanted ≡ Some TooLarge
BatchKeepsTo wanted (Err (Append append_error.Failed)) = wanted ≡ None
BatchKeepsTo wanted (Err (Append append_error.Broken)) = wanted ≡ Some (Append append_error.Broken)
BatchKeepsTo wanted (Err (Append append_error.Full)) = wanted ≡ Some (Append append_error.Full)
BatchKeepsTo wanted (Err Memory) = IsOfJournal wanted
BatchKeepsTo wanted (Err other) = ⊥

-- So does the answer to a landmark, but memory may be refused after the first test.
abbrev pub MarkKeepsTo : Option LogError → Result (ℕ × ℕ) LogError → Type 0
MarkKeepsTo wanted (Ok landmark) = wanted ≡ None
MarkKeepsTo wanted (Err NothingNew) = wanted ≡ Some NothingNew
MarkKeepsTo wanted (Err (Append append_error.Failed)) = wanted ≡ None
MarkKeepsTo wanted (Err (Append append_error.Broken)) = wanted ≡ Some (Append append_error.Broken)
MarkKeepsTo wanted (Err (Append append_error.Full)) = wanted ≡ Some (Append append_error.Full)
MarkKeepsTo wanted (Err Memory) = wanted ≢ Some NothingNew
MarkKeepsTo wanted (Err other) = ⊥

-- And so does the answer to tiles. After the first test memory may be refused, and then a failure
-- of the disk of the tiles reported, also where the journal would refuse.
abbrev pub TilesKeepTo : Option LogError → Result ℕ LogError → Type 0
TilesKeepTo wanted (Ok size) = wanted ≡ None
TilesKeepTo wanted (Err NothingNew) = wanted ≡ Some NothingNew
TilesKeepTo wanted (Err Failed) = wanted ≢ Some NothingNew
TilesKeepTo wanted (Err (Append append_error.Failed)) = wanted ≡ None
TilesKeepTo wanted (Err (Append append_error.Broken)) = wanted ≡ Some (Append append_error.Broken)
TilesKeepTo wanted (Err (Append append_error.Full)) = wanted ≡ Some (Append append_error.Full)
TilesKeepTo wanted (Err Memory) = wanted ≢ Some NothingNew
TilesKeepTo wanted (Err other) = ⊥

-- And so does the answer to a switch. Memory may be refused after the first test.
abbrev pub SwitchKeepsTo : Option LogError → Result ℕ LogError → Type 0
SwitchKeepsTo wanted (Ok index) = wanted ≡ None
SwitchKeepsTo wanted (Err (AlreadySwitched index)) = wanted ≡ Some (AlreadySwitched index)
SwitchKeepsTo wanted (Err (Append append_error.Failed)) = wanted ≡ None
SwitchKeepsTo wanted (Err (Append append_error.Broken)) =
    wanted ≡ Some (Append append_error.Broken)
SwitchKeepsTo wanted (Err (Append append_error.Full)) = wanted ≡ Some (Append append_error.Full)
SwitchKeepsTo wanted (Err Memory) = (index : ℕ) → wanted ≢ Some (AlreadySwitched index)
SwitchKeepsTo wanted (Err other) = ⊥

-- the entry and the key at an index
unfoldable pub item_at : LogState → ℕ → Result (Text × Text) LogError
item_at s index =
    if nat_lt index (length s.entries)
    then Ok (slice_index_or s.entries index [], slice_index_or s.keys index [])
    else Err NoSuchEntry

-- two byte strings hold that item; `NoSuchEntry` is answered exactly if there is none, and any
-- other refusal is of memory or a failure; after a refusal this says nothing of the byte strings
abbrev pub GivesItem : Result (Text × Text) LogError → Result (Unit {0}) LogError
    → Text → Text → Type 0
GivesItem wanted (Ok done) entry key = wanted ≡ Ok (entry, key)
GivesItem wanted (Err why) entry key =
    (why ≢ Memory → why ≢ Failed → wanted ≡ Err why)
    × (wanted ≡ Err NoSuchEntry → why ≡ NoSuchEntry)
