-- The names of the parties.
use Rattle.std.specs.Prelude.{ℕ, [], ◌∷◌}
use Rattle.byte_formats.specs.Types.{Text}

-- the anchor id 32473.N, N below 128
abbrev pub id_of : ℕ → Text
id_of last = 0x81 ∷ 0xFD ∷ 0x59 ∷ last ∷ []

-- the id of the log, 32473.1
abbrev pub drill_log_id : Text
drill_log_id = id_of 1
