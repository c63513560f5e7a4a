-- Signs of one interval with different hashes.
use Rattle.std.specs.Prelude.{ℕ, ◌&&◌, ◌==◌, not, Bool, false, bytes_eq, List, []}
use Rattle.std.specs.Prelude.{◌∷◌, ◌++◌, length, Option, Some, None, option_map, slice_get}
use Rattle.std.specs.List.{position}
use Rattle.cosigner_core.specs.declared.step.Step.{Step}
use Rattle.cosigner_core.specs.declared.step.Step.TheVariants.{Advance, Child, Sign}

-- Both steps are Signs of one interval, with different hashes.
abbrev pub conflicts : Step → Step → Bool
conflicts (Sign index start end hash proof) (Sign number from to node shown) =
    (from == start) && ((to == end) && not (bytes_eq hash node))
conflicts (Sign index start end hash proof) (Advance size root shown) = false
conflicts (Sign index start end hash proof) (Child child low) = false
conflicts (Advance size root proof) step = false
conflicts (Child child low) step = false

-- The two indices, where an earlier one was found.
abbrev pub indices_or : Option ℕ → ℕ → Option (ℕ × ℕ) → Option (ℕ × ℕ)
indices_or (Some earlier) place rest = Some (earlier, place)
indices_or None place rest = rest

-- The first of some steps that conflicts with an earlier one, or with one of those seen before.
unfoldable pub conflict_after : List Step → List Step → Option (ℕ × ℕ)
conflict_after seen [] = None
conflict_after seen (step ∷ rest) =
    indices_or (position (conflicts step) seen) (length seen)
    (conflict_after (seen ++ step ∷ []) rest)

-- The indices of two Signs in conflict: the first one that conflicts with an earlier one comes
-- second, and the earliest of these first.
abbrev pub conflict_in : List Step → Option (ℕ × ℕ)
conflict_in steps = conflict_after [] steps

-- The number of the one-time key of a Sign, and of the Sign at an index.
abbrev pub key_number : Step → ℕ
key_number (Advance size root proof) = 0
key_number (Sign index start end hash proof) = index
key_number (Child child low) = 0

abbrev pub key_in : Option Step → ℕ
key_in (Some step) = key_number step
key_in None = 0

abbrev pub keys_at : List Step → ℕ × ℕ → ℕ × ℕ
keys_at steps indices = (key_in (slice_get steps indices.0), key_in (slice_get steps indices.1))

-- The numbers of the one-time keys that signed what is in conflict.
abbrev pub quarrel_of : List Step → Option (ℕ × ℕ)
quarrel_of steps = option_map (keys_at steps) (conflict_in steps)
