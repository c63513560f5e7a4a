-- What holds of a log if the model knows the records on its disk: its items are the first ones in
-- these, as many as it shows over every disk.
use Rattle.std.specs.Prelude.{List, [], ◌∷◌, map, take, flat_map}
use Rattle.byte_formats.specs.Types.{Text}
use Rattle.issuance_log.specs.Folds.{LogState, LogView, null_entry}
use Rattle.issuance_log.specs.Records.{added_items}

-- The items in the records of a log, in their order: the null entry, without a key, and those that
-- each record after the first one adds.
abbrev pub recorded_items : List Text → List (Text × Text)
recorded_items [] = []
recorded_items (first ∷ bodies) =
    (null_entry, []) ∷ flat_map added_items bodies

-- The log that shows this over every disk, with the first items in these records.
abbrev pub shown_with : LogView → List Text → LogState
shown_with v list = record {
  settings = v.settings;
  entries = take v.size (map (λ item. item.0) (recorded_items list));
  keys = take v.size (map (λ item. item.1) (recorded_items list));
  marks = v.marks;
  tiled = v.tiled;
  switched = v.switched;
}
