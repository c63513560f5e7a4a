-- The most that a log may allow when it begins.
use Rattle.std.specs.Prelude.{ℕ}

-- so many active landmarks
abbrev pub most_active : ℕ
most_active = 10000

-- so many entries
abbrev pub most_entries : ℕ
most_entries = 16777216
