-- What a crash may leave of writes, byte by byte.
use Rattle.std.specs.Prelude.{◌≡◌, ◌⊎◌, ℕ, ◌+◌, ◌-◌, ◌<◌, ◌≤◌, List, [], ◌∷◌, length, take}
use Rattle.std.specs.Prelude.{slice_index}
use Rattle.byte_formats.specs.Types.{Text}

-- an offset outside of a write
abbrev pub IsOutside : ℕ → ℕ × Text → Type 0
IsOutside i write = (i < write.0) ⊎ (write.0 + length write.1 ≤ i)

-- A write leaves a byte of the old ones as it was: it doesn't reach it, or writes the same there.
abbrev pub LeavesByte : Text → ℕ → ℕ × Text → Type 0
LeavesByte old i write =
    IsOutside i write ⊎ (slice_index write.1 (i - write.0) ≡ slice_index old i)

-- each of these writes does
abbrev pub AllLeaveByte : Text → ℕ → List (ℕ × Text) → Type 0
AllLeaveByte old i [] = Unit {0}
AllLeaveByte old i (write ∷ writes) = LeavesByte old i write × AllLeaveByte old i writes

-- Below the old end each byte is as it was that all of the writes leave so. All else may be any
-- bytes, and the end anywhere from the old end on.
pub record KeepsOthers (writes : List (ℕ × Text)) (old new : Text) : Type 0 where
  pub no_shorter : length old ≤ length new
  pub others : (i : ℕ) → i < length old → AllLeaveByte old i writes
      → slice_index new i ≡ slice_index old i

-- all the old bytes, and any after them
abbrev pub Extends : Text → Text → Type 0
Extends old new = take (length old) new ≡ old

-- each crash state has this byte at that offset
abbrev pub EachHas : ℕ → ℕ → (Text → Type 0) → Type 0
EachHas i byte crash_states =
    (c : Text) → crash_states c → (i < length c) × (slice_index c i ≡ byte)
