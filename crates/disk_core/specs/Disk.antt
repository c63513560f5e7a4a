-- What the calls of a disk do to its bytes, and what a crash may leave of them.
use Rattle.std.specs.Prelude.{◌≡◌, ◌⊎◌, ℕ, ◌+◌, ◌<◌, ◌≤◌, ◌++◌, length, take, drop, slice_index}
use Rattle.byte_formats.specs.Types.{Text}

-- the bytes after a piece is written over them at an offset
abbrev pub overwritten : ℕ → Text → Text → Text
overwritten place piece old = take place old ++ piece ++ drop (place + length piece) old

-- so many of the bytes, from an offset on
abbrev pub part : ℕ → ℕ → Text → Text
part place count bytes = take count (drop place bytes)

-- A crash state before a piece is written at an offset, and one after it. Below the old end each
-- byte stays that the write leaves as it was: one outside of the range, and one that is written as
-- it was. The others, and all that lies past the old end, may be any bytes, and the new crash state
-- may end anywhere from the old end on.
pub record Torn (place : ℕ) (piece old new : Text) : Type 0 where
  pub no_shorter : length old ≤ length new
  pub stays : (i : ℕ) → i < length old
      → slice_index (overwritten place piece old) i ≡ slice_index old i
      → slice_index new i ≡ slice_index old i

-- each crash state now comes from a crash state before, by a step
abbrev pub Follows : (Text → Text → Type 0) → (Text → Type 0) → (Text → Type 0) → Type 0
Follows step old new = (c : Text) → new c → (d : Text) × old d × step d c

-- each crash state now is one from before
abbrev pub NoNew : (Text → Type 0) → (Text → Type 0) → Type 0
NoNew old new = (c : Text) → new c → old c

-- a crash leaves these bytes and nothing else
abbrev pub Only : Text → (Text → Type 0) → Type 0
Only bytes crash_states = (c : Text) → crash_states c → c ≡ bytes

-- The clock of a disk doesn't go back. What a crash since an earlier time might have left stays
-- that, and nothing joins it but what a crash may leave now.
pub record Elapses (before now : ℕ) (past since : ℕ → Text → Type 0)
    (may_leave : Text → Type 0) : Type 0 where
  pub later : before ≤ now
  pub nothing_else : (t : ℕ) (c : Text) → t ≤ before → since t c → past t c ⊎ may_leave c
  pub keeps : (t : ℕ) (c : Text) → t ≤ before → past t c → since t c
