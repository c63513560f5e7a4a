-- The reading of a file as a function of its bytes: its whole records from the first one on, and
-- how it ends.
use Rattle.std.specs.Prelude.{ℕ, zero, suc, ◌+◌, ◌==◌, ◌||◌, nat_lt, if◌then◌else◌, List, [], ◌∷◌}
use Rattle.std.specs.Prelude.{length, slice_index}
use Rattle.byte_formats.specs.Types.{Text}
use Rattle.journal_core.specs.Format.{size_at, body_at}

-- at a closed commit byte; at an offset where an open record has a bad length; where the file ends
-- too early
pub data FileEnd : Type 0 where
  at_commit_byte : FileEnd
  at_bad_length : ℕ → FileEnd
  at_cut : ℕ → FileEnd

-- the whole records of a file from the first one on, and how it ends after them
pub record FileWalk : Type 0 where
  pub records : List Text
  pub end : FileEnd

-- no record, and this end
abbrev pub ends_here : FileEnd → FileWalk
ends_here end = record { records = []; end = end }

-- a record before those of a walk
abbrev pub with_record : Text → FileWalk → FileWalk
with_record body walk = record { records = body ∷ walk.records; end = walk.end }

-- from an offset on, at most so many steps
abbrev pub walk_from : ℕ → Text → ℕ → FileWalk
walk_from zero bytes place = ends_here (at_cut place)
walk_from (suc most) bytes place =
    if nat_lt place (length bytes)
    then (if slice_index bytes place == 0 then ends_here at_commit_byte
    else (if nat_lt (length bytes) (place + 5) then ends_here (at_cut place)
    else (if (size_at bytes place == 0) || nat_lt 131072 (size_at bytes place)
    then ends_here (at_bad_length place)
    else (if nat_lt (length bytes) (place + 5 + size_at bytes place) then ends_here (at_cut place)
    else with_record (body_at bytes place)
    (walk_from most bytes (place + 5 + size_at bytes place))))))
    else ends_here (at_cut place)

-- after the header
unfoldable pub walk_of : Text → FileWalk
walk_of bytes = walk_from (length bytes) bytes 16
