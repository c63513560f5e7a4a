-- What the records of a journal make of a log. The first one begins it, and each later one changes
-- it by what it says.
use Rattle.std.specs.Prelude.{ℕ, ◌+◌, ◌%◌, ◌==◌, ◌&&◌, nat_lt, nat_le, List, [], ◌∷◌, ◌++◌, length}
use Rattle.std.specs.Prelude.{Option, Some, None, option_map, is_none, Result, is_ok}
use Rattle.std.specs.Prelude.{if◌then◌else◌, Bool, true, false, map}
use Rattle.byte_formats.specs.Types.{Text, HashFunction}
use Rattle.journal_core.specs.Folds.{Fold, state_after, taken_from}
use Rattle.log_entry.specs.Forms.{form_at}
use Rattle.log_entry.specs.Matching.{has_form, matches}
use Rattle.log_entry.specs.declared.entry.Form.{Form}
use Rattle.issuance_log.specs.LogSteps.{LogStep, adds_items, log_step_in, sets_mark, stores_tiles}
use Rattle.issuance_log.specs.LogSteps.{switches, unknown_step}
use Rattle.issuance_log.specs.Marks.{last_mark}
use Rattle.issuance_log.specs.Records.{settings_in}
use Rattle.issuance_log.specs.Settings.{Settings}
use Rattle.issuance_log.specs.declared.error.LogOpenError.{LogOpenError}
use Rattle.issuance_log.specs.declared.error.LogOpenError.TheVariants.{BadRecord, Open}

-- A log: its settings, its entries by their index, the key of each, the sizes at its landmarks, the
-- last size whose full tiles are stored, 0 where there is none, and the index from which on entries
-- name the algorithm of their key, if it was switched.
pub record LogState : Type 0 where
  pub settings : Settings
  pub entries : List Text
  pub keys : List Text
  pub marks : List ℕ
  pub tiled : ℕ
  pub switched : Option ℕ

-- What it shows over every disk: the settings, how many entries there are, the landmarks, the last
-- size of its tiles, and that index.
pub record LogView : Type 0 where
  pub settings : Settings
  pub size : ℕ
  pub marks : List ℕ
  pub tiled : ℕ
  pub switched : Option ℕ

-- What the log shows of itself.
abbrev pub view_in : LogState → LogView
view_in s = record {
  settings = s.settings;
  size = length s.entries;
  marks = s.marks;
  tiled = s.tiled;
  switched = s.switched;
}

-- what is retained of the numbers: what the log shows, and how many landmarks more need no memory
pub record LogNumbers : Type 0 where
  pub view : LogView
  pub mark_spare : ℕ

-- the null entry
abbrev pub null_entry : Text
null_entry = 0 ∷ 0 ∷ []

-- a new log has the null entry, without a key
abbrev pub new_log : Settings → LogState
new_log settings = record {
  settings = settings;
  entries = null_entry ∷ [];
  keys = [] ∷ [];
  marks = [];
  tiled = 0;
  switched = None;
}

-- one item more
abbrev pub with_item : Text → Text → LogState → LogState
with_item entry key s = record s { entries = s.entries ++ entry ∷ []; keys = s.keys ++ key ∷ [] }

-- these items more, in their order
abbrev pub with_items : List (Text × Text) → LogState → LogState
with_items items s = record s {
  entries = s.entries ++ map (λ item. item.0) items;
  keys = s.keys ++ map (λ item. item.1) items;
}

-- a landmark more, at the size
abbrev pub with_mark : LogState → LogState
with_mark s = record s { marks = s.marks ++ length s.entries ∷ [] }

-- the tiles of this size
abbrev pub with_tiles : ℕ → LogState → LogState
with_tiles size s = record s { tiled = size }

-- entries name the algorithm of their key from the size on
abbrev pub with_switch : LogState → LogState
with_switch s = record s { switched = Some (length s.entries) }

-- what these make of what a log shows over every disk
abbrev pub one_item_more : LogView → LogView
one_item_more v = record v { size = v.size + 1 }

-- so many items more
abbrev pub more_entries : ℕ → LogView → LogView
more_entries count v = record v { size = v.size + count }

-- the same with another size
abbrev pub of_size : ℕ → LogView → LogView
of_size size v = record v { size = size }

abbrev pub one_mark_more : LogView → LogView
one_mark_more v = record v { marks = v.marks ++ v.size ∷ [] }

abbrev pub tiled_to : ℕ → LogView → LogView
tiled_to size v = record v { tiled = size }

abbrev pub switched_now : LogView → LogView
switched_now v = record v { switched = Some v.size }

-- the log that a first record begins
unfoldable pub begun_log : Text → Option LogState
begun_log body = option_map new_log (settings_in body)

-- what it shows over every disk
abbrev pub begun_view : Text → Option LogView
begun_view body = option_map view_in (begun_log body)

-- The form of the next entry.
abbrev pub log_form : LogView → Form
log_form v = form_at v.switched v.size

-- Whether a log that shows this takes an Entry: the log isn't full, and the entry has its form and
-- a key that matches.
abbrev pub takes_entry : HashFunction → LogView → Text × Text → Bool
takes_entry h v x =
    nat_lt v.size v.settings.limit && (has_form (log_form v) x.0 && matches h x.0 x.1)

-- Items, in their order: each by the rule of an Entry, after those before it.
abbrev pub takes_items : HashFunction → LogView → List (Text × Text) → Bool
takes_items h v [] = true
takes_items h v (x ∷ items) = takes_entry h v x && takes_items h (one_item_more v) items

-- a Landmark: it is the size, and above the last one
abbrev pub takes_landmark : LogView → ℕ → Bool
takes_landmark v size = size == v.size && nat_lt (last_mark v.marks) size

-- a Tiles: a multiple of 256, above the last one and within the size
abbrev pub takes_tiles : LogView → ℕ → Bool
takes_tiles v size = (size % 256 == 0) && (nat_lt v.tiled size && nat_le size v.size)

-- a Switch: it is the first one, at the size
abbrev pub takes_switch : LogView → ℕ → Bool
takes_switch v index = is_none v.switched && (index == v.size)

-- Whether a log that shows this takes what a record says.
abbrev pub takes_log_step : HashFunction → LogView → LogStep → Bool
takes_log_step h v (adds_items items) = takes_items h v items
takes_log_step h v (sets_mark size) = takes_landmark v size
takes_log_step h v (stores_tiles size) = takes_tiles v size
takes_log_step h v (switches index) = takes_switch v index
takes_log_step h v unknown_step = false

-- what it makes of the log
abbrev pub log_by_step : LogStep → LogState → LogState
log_by_step (adds_items items) s = with_items items s
log_by_step (sets_mark size) s = with_mark s
log_by_step (stores_tiles size) s = with_tiles size s
log_by_step (switches index) s = with_switch s
log_by_step unknown_step s = s

-- and of what the log shows over every disk
abbrev pub view_by_step : LogStep → LogView → LogView
view_by_step (adds_items items) v = more_entries (length items) v
view_by_step (sets_mark size) v = one_mark_more v
view_by_step (stores_tiles size) v = tiled_to size v
view_by_step (switches index) v = switched_now v
view_by_step unknown_step v = v

-- the log after this, or none where it doesn't take it
abbrev pub log_after_step : HashFunction → LogState → LogStep → Option LogState
log_after_step h s x = if takes_log_step h (view_in s) x then Some (log_by_step x s) else None

abbrev pub view_after_step : HashFunction → LogView → LogStep → Option LogView
view_after_step h v x = if takes_log_step h v x then Some (view_by_step x v) else None

-- the log after one record more, or none where the record breaks the rules
unfoldable pub next_log : HashFunction → LogState → Text → Option LogState
next_log h s body = log_after_step h s (log_step_in body)

-- what it shows over every disk after one record more
unfoldable pub next_view : HashFunction → LogView → Text → Option LogView
next_view h v body = view_after_step h v (log_step_in body)

-- A log as a kind of journal.
abbrev pub log_fold : HashFunction → Fold LogState LogOpenError
log_fold h =
    record { begins = begun_log; takes = next_log h; bad_record = BadRecord; not_read = Open }

-- The log of a journal with these records, or the number of the first record that breaks the rules.
-- Without a record the first one is missing.
abbrev pub log_of : HashFunction → List Text → Result LogState ℕ
log_of h list = state_after (log_fold h) list

-- The log that these records make after a first one with these settings, or the number of the first
-- record that breaks the rules.
abbrev pub log_after : HashFunction → Settings → List Text → Result LogState ℕ
log_after h settings bodies = taken_from (log_fold h) 1 (new_log settings) bodies

-- They may follow a first record with these settings.
abbrev pub may_follow_log : HashFunction → Settings → List Text → Bool
may_follow_log h settings bodies = is_ok (log_after h settings bodies)
