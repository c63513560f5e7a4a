-- What the records of a journal make of a mirror. The first one begins it, and each later one
-- changes it by what it says.
use Rattle.std.specs.Prelude.{ℕ, ◌+◌, ◌%◌, ◌^◌, ◌==◌, ◌&&◌, nat_lt, nat_le, not, List, [], ◌++◌}
use Rattle.std.specs.Prelude.{length, map, Option, Some, None, option_map, Result, Bool, false}
use Rattle.std.specs.Prelude.{if◌then◌else◌, is_ok}
use Rattle.std.specs.List.{list_all}
use Rattle.byte_formats.specs.Types.{HashFunction, Text}
use Rattle.entry_list.specs.Items.{is_key_of}
use Rattle.issuance_log.specs.Batches.{is_large}
use Rattle.issuance_log.specs.Records.{tiled_in}
use Rattle.journal_core.specs.Folds.{Fold, state_after, taken_from}
use Rattle.mirror_core.specs.Records.{all_mirrored, mirror_log_in, mirrored_in}
use Rattle.mirror_core.specs.declared.error.MirrorOpenError.{MirrorOpenError}
use Rattle.mirror_core.specs.declared.error.MirrorOpenError.TheVariants.{BadRecord, Open}

-- A mirror: the id of its log, its items, each an entry and the key beside it, and the last size
-- whose full tiles are stored, 0 where there is none.
pub record MirrorState : Type 0 where
  pub log : Text
  pub items : List (Text × Text)
  pub tiled : ℕ

-- What it shows over every disk: the id, how many items there are, and that size.
pub record MirrorView : Type 0 where
  pub log : Text
  pub size : ℕ
  pub tiled : ℕ

-- what the mirror shows of itself
abbrev pub view_in_mirror : MirrorState → MirrorView
view_in_mirror s = record { log = s.log; size = length s.items; tiled = s.tiled }

-- the entries of its items
abbrev pub entries_in_mirror : MirrorState → List Text
entries_in_mirror s = map (λ item. item.0) s.items

-- The mirror that shows this over every disk, with the items in these records.
abbrev pub mirror_with : MirrorView → List Text → MirrorState
mirror_with v list = record { log = v.log; items = all_mirrored list; tiled = v.tiled }

-- a new mirror has no items
abbrev pub new_mirror : Text → MirrorState
new_mirror log = record { log = log; items = []; tiled = 0 }

-- these items more, in their order
abbrev pub with_mirrored : List (Text × Text) → MirrorState → MirrorState
with_mirrored items s = record { log = s.log; items = s.items ++ items; tiled = s.tiled }

-- the tiles of this size
abbrev pub with_mirror_tiles : ℕ → MirrorState → MirrorState
with_mirror_tiles size s = record { log = s.log; items = s.items; tiled = size }

-- what these make of what a mirror shows over every disk
abbrev pub more_mirrored : ℕ → MirrorView → MirrorView
more_mirrored count v = record { log = v.log; size = v.size + count; tiled = v.tiled }

abbrev pub mirror_tiled_to : ℕ → MirrorView → MirrorView
mirror_tiled_to size v = record { log = v.log; size = v.size; tiled = size }

-- the mirror that a first record begins
unfoldable pub begun_mirror : Text → Option MirrorState
begun_mirror body = option_map new_mirror (mirror_log_in body)

-- what it shows over every disk
abbrev pub begun_mirror_view : Text → Option MirrorView
begun_mirror_view body = option_map view_in_mirror (begun_mirror body)

-- An item of a mirror: the entry and the key have at most 65,535 bytes together, and the key is the
-- one that has to stand beside the entry.
abbrev pub is_mirrorable : HashFunction → Text × Text → Bool
is_mirrorable h x = not (is_large x) && is_key_of h x.0 x.1

-- Whether a mirror that shows this takes a Batch: there are fewer than 2^32 items with its own,
-- each of which is one of a mirror.
abbrev pub takes_mirrored : HashFunction → MirrorView → List (Text × Text) → Bool
takes_mirrored h v items =
    nat_lt (v.size + length items) (2 ^ 32) && list_all (is_mirrorable h) items

-- a Tiles: a multiple of 256, above the last one and within the size
abbrev pub takes_mirror_tiles : MirrorView → ℕ → Bool
takes_mirror_tiles v size = (size % 256 == 0) && (nat_lt v.tiled size && nat_le size v.size)

-- What a record of a mirror after the first says: items, the tiles of a size, or nothing that a
-- mirror takes.
pub data MirrorStep : Type 0 where
  mirrors_items : List (Text × Text) → MirrorStep
  mirrors_tiles : ℕ → MirrorStep
  no_mirror_step : MirrorStep

-- what it says by what is read in it: a record has one of them at most
abbrev pub mirror_step : Option (List (Text × Text)) → Option ℕ → MirrorStep
mirror_step (Some items) tiled = mirrors_items items
mirror_step None (Some size) = mirrors_tiles size
mirror_step None None = no_mirror_step

-- what the record says
abbrev pub mirror_step_in : Text → MirrorStep
mirror_step_in body = mirror_step (mirrored_in body) (tiled_in body)

-- Whether a mirror that shows this takes what a record says.
abbrev pub takes_mirror_step : HashFunction → MirrorView → MirrorStep → Bool
takes_mirror_step h v (mirrors_items items) = takes_mirrored h v items
takes_mirror_step h v (mirrors_tiles size) = takes_mirror_tiles v size
takes_mirror_step h v no_mirror_step = false

-- what it makes of the mirror
abbrev pub mirror_by_step : MirrorStep → MirrorState → MirrorState
mirror_by_step (mirrors_items items) s = with_mirrored items s
mirror_by_step (mirrors_tiles size) s = with_mirror_tiles size s
mirror_by_step no_mirror_step s = s

-- and of what the mirror shows over every disk
abbrev pub mirror_view_by_step : MirrorStep → MirrorView → MirrorView
mirror_view_by_step (mirrors_items items) v = more_mirrored (length items) v
mirror_view_by_step (mirrors_tiles size) v = mirror_tiled_to size v
mirror_view_by_step no_mirror_step v = v

-- the mirror after one record more, or none where the record breaks the rules
unfoldable pub next_mirror : HashFunction → MirrorState → Text → Option MirrorState
next_mirror h s body =
    if takes_mirror_step h (view_in_mirror s) (mirror_step_in body)
    then Some (mirror_by_step (mirror_step_in body) s) else None

-- what it shows over every disk after one record more
unfoldable pub next_mirror_view : HashFunction → MirrorView → Text → Option MirrorView
next_mirror_view h v body =
    if takes_mirror_step h v (mirror_step_in body)
    then Some (mirror_view_by_step (mirror_step_in body) v) else None

-- A mirror as a kind of journal.
abbrev pub mirror_fold : HashFunction → Fold MirrorState MirrorOpenError
mirror_fold h = record {
  begins = begun_mirror;
  takes = next_mirror h;
  bad_record = BadRecord;
  not_read = Open;
}

-- The mirror of a journal with these records, or the number of the first record that breaks the
-- rules. Without a record the first one is missing.
abbrev pub mirror_of : HashFunction → List Text → Result MirrorState ℕ
mirror_of h list = state_after (mirror_fold h) list

-- The mirror that these records make after a first one with this id, or the number of the first
-- record that breaks the rules.
abbrev pub mirror_after : HashFunction → Text → List Text → Result MirrorState ℕ
mirror_after h log bodies = taken_from (mirror_fold h) 1 (new_mirror log) bodies

-- They may follow a first record with this id.
abbrev pub may_follow_mirror : HashFunction → Text → List Text → Bool
may_follow_mirror h log bodies = is_ok (mirror_after h log bodies)
