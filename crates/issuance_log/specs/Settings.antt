-- The settings of a log, and the limits that they keep.
use Rattle.std.specs.Prelude.{ℕ, ◌≤◌, ◌&&◌, nat_le, Bool}
use Rattle.byte_formats.specs.Types.{Text}
use Rattle.landmarks.specs.Limits.{most_active, most_entries}

-- the id as its bytes, how many landmarks are active at most, and how many entries there are at
-- most
pub record Settings : Type 0 where
  pub id : Text
  pub max_active : ℕ
  pub limit : ℕ

-- an entry and its key have at most so many bytes together
abbrev pub most_item : ℕ
most_item = 65535

-- the numbers that a log may have
abbrev pub are_allowed : ℕ → ℕ → Bool
are_allowed active limit =
    (nat_le 1 active && nat_le active most_active) && (nat_le 2 limit && nat_le limit most_entries)

-- the same as facts
pub record AreAllowed (active limit : ℕ) : Type 0 where
  pub some_active : 1 ≤ active
  pub few_active : active ≤ most_active
  pub some : 2 ≤ limit
  pub few : limit ≤ most_entries
