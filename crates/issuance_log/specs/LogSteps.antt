-- What a record of a log after the first says, as one value.
use Rattle.std.specs.Prelude.{ℕ, List, Option, Some, None}
use Rattle.byte_formats.specs.Types.{Text}
use Rattle.issuance_log.specs.Records.{added_in, mark_in, switch_in, tiled_in}

-- Entries with their keys, a landmark at a size, the tiles of a size, that entries name the
-- algorithm of their key from an index on, or nothing that a log takes.
pub data LogStep : Type 0 where
  adds_items : List (Text × Text) → LogStep
  sets_mark : ℕ → LogStep
  stores_tiles : ℕ → LogStep
  switches : ℕ → LogStep
  unknown_step : LogStep

-- What it says by what is read in it: a record has one of them at most.
abbrev pub log_step : Option (List (Text × Text)) → Option ℕ → Option ℕ → Option ℕ → LogStep
log_step (Some items) mark tiled switch = adds_items items
log_step None (Some size) tiled switch = sets_mark size
log_step None None (Some size) switch = stores_tiles size
log_step None None None (Some index) = switches index
log_step None None None None = unknown_step

-- What the record says.
abbrev pub log_step_in : Text → LogStep
log_step_in body = log_step (added_in body) (mark_in body) (tiled_in body) (switch_in body)
