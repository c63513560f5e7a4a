-- What the calls of a mirror refuse, as functions of what it shows, of its items and of those that
-- are given.
use Rattle.std.specs.Prelude.{◌≡◌, ◌≢◌, ℕ, ◌+◌, ◌-◌, ◌*◌, ◌/◌, ◌&&◌, nat_le, nat_lt, not, Bool}
use Rattle.std.specs.Prelude.{false, List, [], ◌∷◌, length, take, drop, slice_index_or, Option}
use Rattle.std.specs.Prelude.{Some}
use Rattle.std.specs.Prelude.{None, option_map, Result, Ok, Err, IfSome, if◌then◌else◌}
use Rattle.std.specs.List.{zip}
use Rattle.std.specs.Str.{bytes_eq}
use Rattle.byte_formats.specs.Types.{Text}
use Rattle.entry_list.specs.Items.{ItemLists}
use Rattle.issuance_log.specs.Batches.{is_large, most_listed}
use Rattle.issuance_log.specs.Changes.{IsJournalAnswer}
use Rattle.issuance_log.specs.Records.{item_text, tiles_record}
use Rattle.issuance_log.specs.Refusals.{append_refusal}
use Rattle.journal_core.specs.declared.error.AppendError.{AppendError}
use Rattle.journal_core.specs.declared.error.AppendError.TheVariants as append_error
use Rattle.mtc_io.specs.Counts.{Rose}
use Rattle.mirror_core.specs.Folds.{MirrorState, MirrorView}
use Rattle.mirror_core.specs.Records.{mirror_batch_record}
use Rattle.mirror_core.specs.declared.error.MirrorError.{MirrorError}
use Rattle.mirror_core.specs.declared.error.MirrorError.TheVariants.{Append, Beyond, Differs}
use Rattle.mirror_core.specs.declared.error.MirrorError.TheVariants.{Failed, Memory, NothingNew}
use Rattle.mirror_core.specs.declared.error.MirrorError.TheVariants.{TooLarge}

-- ---- items that are given

-- the items of a list, each an entry and the key beside it
abbrev pub pairs_of : ItemLists → List (Text × Text)
pairs_of items = zip items.entries items.keys

-- two items have the same bytes
abbrev pub is_same_item : Text × Text → Text × Text → Bool
is_same_item x y = bytes_eq x.0 y.0 && bytes_eq x.1 y.1

-- The number of the first item that isn't the same in both lists, of which the first ones have this
-- number; none where one list begins with the other.
unfoldable pub difference_from : ℕ → List (Text × Text) → List (Text × Text) → Option ℕ
difference_from n [] items = None
difference_from n (x ∷ held) [] = None
difference_from n (x ∷ held) (y ∷ items) =
    if is_same_item x y then difference_from (n + 1) held items else Some n

abbrev pub first_difference : List (Text × Text) → List (Text × Text) → Option ℕ
first_difference held items = difference_from 0 held items

-- How many of the first items fit so many bytes, each after two lengths, where none of them is
-- large.
unfoldable pub batch_count : ℕ → List (Text × Text) → ℕ
batch_count left [] = 0
batch_count left (item ∷ items) =
    if not (is_large item) && nat_le (length (item_text item)) left
    then batch_count (left - length (item_text item)) items + 1
    else 0

-- The items of the next Batch of a mirror with so many: those after as many that fit a record.
abbrev pub next_batch : ℕ → List (Text × Text) → List (Text × Text)
next_batch size items = take (batch_count most_listed (drop size items)) (drop size items)

-- The first item is large.
abbrev pub begins_large : List (Text × Text) → Bool
begins_large [] = false
begins_large (item ∷ items) = is_large item

-- ---- take

-- The refusal of items that a mirror with so many is given, the first that holds, by the number of
-- the first item that differs from its own: such a number; items that are no more than its own; a
-- new one that is large; and what the journal refuses.
unfoldable pub take_refusal : Option ℕ → ℕ → Bool → ℕ → List (Text × Text) → Option MirrorError
take_refusal (Some number) size broken end items = Some (Differs number)
take_refusal None size broken end items =
    if nat_le (length items) size then Some NothingNew
    else (if begins_large (drop size items) then Some (TooLarge size)
    else option_map Append
    (append_refusal broken end (mirror_batch_record (next_batch size items))))

-- The answer to items follows their refusal. Memory may be refused instead of any answer, and so
-- may a failure be reported.
abbrev pub TakeKeepsTo : Option MirrorError → Result ℕ MirrorError → Type 0
TakeKeepsTo wanted (Ok size) = wanted ≡ None
TakeKeepsTo wanted (Err (Differs number)) = wanted ≡ Some (Differs number)
TakeKeepsTo wanted (Err NothingNew) = wanted ≡ Some NothingNew
TakeKeepsTo wanted (Err (TooLarge size)) = wanted ≡ Some (TooLarge size)
TakeKeepsTo wanted (Err (Append append_error.Failed)) = wanted ≡ None
TakeKeepsTo wanted (Err (Append append_error.Broken)) = wanted ≡ Some (Append append_error.Broken)
TakeKeepsTo wanted (Err (Append append_error.Full)) = wanted ≡ Some (Append append_error.Full)
TakeKeepsTo wanted (Err Failed) = Unit {0}
TakeKeepsTo wanted (Err Memory) = Unit {0}
TakeKeepsTo wanted (Err other) = ⊥

-- It follows that of some difference: the first one, if the model knows the mirror.
pub record TakeAnswers (known : Option MirrorState) (size : ℕ) (broken : Bool) (end : ℕ)
    (items : List (Text × Text)) (result : Result ℕ MirrorError) : Type 0 where
  pub difference : Option ℕ
  pub first : IfSome known (λ s. difference ≡ first_difference s.items items)
  pub answer : TakeKeepsTo (take_refusal difference size broken end items) result

-- A count of failures rose where a call answers that a disk failed, and is as it was where it
-- answers anything else.
abbrev pub MirrorCounts : {X : Type 0} → ℕ → ℕ → Result X MirrorError → Type 0
MirrorCounts before after (Ok answer) = after ≡ before
MirrorCounts before after (Err Failed) = Rose before after
MirrorCounts before after (Err other) = after ≡ before

-- so it is, where the journal's failure is one too
abbrev pub MirrorCountsAll : {X : Type 0} → ℕ → ℕ → Result X MirrorError → Type 0
MirrorCountsAll before after (Ok answer) = after ≡ before
MirrorCountsAll before after (Err Failed) = Rose before after
MirrorCountsAll before after (Err (Append append_error.Failed)) = Rose before after
MirrorCountsAll before after (Err other) = after ≡ before

-- ---- tiles

-- the greatest multiple of 256 that isn't above the size
abbrev pub full_mirror_size : MirrorView → ℕ
full_mirror_size v = v.size / 256 * 256

-- The refusal of tiles: where this number isn't above the last size of tiles, and what the journal
-- refuses.
unfoldable pub mirror_tile_refusal : MirrorView → Bool → ℕ → Option MirrorError
mirror_tile_refusal v broken end =
    if nat_le (full_mirror_size v) v.tiled then Some NothingNew
    else option_map Append (append_refusal broken end (tiles_record (full_mirror_size v)))

-- The answer to tiles follows it. After the first test memory may be refused, and then a failure of
-- the disk of the tiles reported, also where the journal would refuse.
abbrev pub MirrorTilesKeepTo : Option MirrorError → Result ℕ MirrorError → Type 0
MirrorTilesKeepTo wanted (Ok size) = wanted ≡ None
MirrorTilesKeepTo wanted (Err NothingNew) = wanted ≡ Some NothingNew
MirrorTilesKeepTo wanted (Err Failed) = wanted ≢ Some NothingNew
MirrorTilesKeepTo wanted (Err (Append append_error.Failed)) = wanted ≡ None
MirrorTilesKeepTo wanted (Err (Append append_error.Broken)) =
    wanted ≡ Some (Append append_error.Broken)
MirrorTilesKeepTo wanted (Err (Append append_error.Full)) =
    wanted ≡ Some (Append append_error.Full)
MirrorTilesKeepTo wanted (Err Memory) = wanted ≢ Some NothingNew
MirrorTilesKeepTo wanted (Err other) = ⊥

-- ---- an item

-- the item at an index
unfoldable pub mirror_item_at : MirrorState → ℕ → Result (Text × Text) MirrorError
mirror_item_at s index =
    if nat_lt index (length s.items)
    then Ok (slice_index_or s.items index ([], []))
    else Err (Beyond (length s.items))

-- Two byte strings hold that item; `Beyond` is answered exactly if there is none, and any other
-- refusal is of memory or a failure. After a refusal this says nothing of the byte strings.
abbrev pub GivesMirrored : Result (Text × Text) MirrorError → Result (Unit {0}) MirrorError
    → Text → Text → Type 0
GivesMirrored wanted (Ok done) entry key = wanted ≡ Ok (entry, key)
GivesMirrored wanted (Err Failed) entry key = Unit {0}
GivesMirrored wanted (Err Memory) entry key = Unit {0}
GivesMirrored wanted (Err why) entry key = wanted ≡ Err why

-- Nothing is said of the items: memory was refused, or a disk failed.
abbrev pub IsNoMirrorAnswer : MirrorError → Type 0
IsNoMirrorAnswer Failed = Unit {0}
IsNoMirrorAnswer Memory = Unit {0}
IsNoMirrorAnswer other = ⊥

-- A call that the journal alone may refuse answers as it does.
abbrev pub KeepsToMirrorJournal : {X : Type 0} → Option AppendError → Result X MirrorError → Type 0
KeepsToMirrorJournal wanted (Ok answer) = wanted ≡ None
KeepsToMirrorJournal wanted (Err why) =
    (refused : AppendError) × ((why ≡ Append refused) × IsJournalAnswer wanted refused)
