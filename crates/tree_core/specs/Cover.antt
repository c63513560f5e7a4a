-- The subtrees that cover an interval (the draft on Merkle Tree Certificates, where it covers
-- arbitrary intervals).
use Rattle.std.specs.Prelude.{◌≡◌, ℕ, zero, suc, ◌+◌, ◌-◌, ◌*◌, ◌/◌, ◌^◌, ◌<◌, ◌≤◌, ◌==◌, nat_lt}
use Rattle.std.specs.Prelude.{if◌then◌else◌, Some, None, MatchOption, bit_and, bit_xor}
use Rattle.tree_core.specs.declared.spans.Cover.{Cover}
use Rattle.tree_core.specs.Laws.{IsSubtree}

-- The number of binary digits of n; 0 has none.
unfoldable pub bit_length : ℕ → ℕ
bit_length zero = 0
bit_length (suc n) = if nat_lt (suc n) (2 ^ bit_length n) then bit_length n else bit_length n + 1

-- n with its k lowest bits cleared.
abbrev pub clear_low : ℕ → ℕ → ℕ
clear_low n k = n / 2 ^ k * 2 ^ k

-- The interval itself, if it holds one entry. Else split is the highest bit in which the first
-- index and the last one differ, the second subtree begins where that bit of the last index is set
-- and no lower one, and the first begins at start without its low bits up to the highest one below
-- split that it lacks.
unfoldable pub cover_of : ℕ → ℕ → Cover
cover_of start end =
    let last = end - 1 in
    let split = bit_length (bit_xor start last) - 1 in
    let mask = 2 ^ split - 1 in
    let middle = clear_low last split in
    let left_split = bit_length (mask - bit_and start mask) in
    let left_start = clear_low start left_split in
    if end - start == 1
    then record { first = record { start = start; end = end }; second = None }
    else record {
      first = record { start = left_start; end = middle };
      second = Some (record { start = middle; end = end });
    }

-- The first is a subtree that begins no later than the interval. It ends with the interval if there
-- is no second. Else it holds the interval's first entry, and the second is a subtree that begins
-- where the first ends, and ends with the interval.
pub record CoversInterval (start end : ℕ) (cover : Cover) : Type 0 where
  pub begins : cover.first.start ≤ start
  pub holds : start < cover.first.end
  pub first : IsSubtree cover.first.start cover.first.end
  pub rest : MatchOption cover.second (cover.first.end ≡ end)
      (λ second.
      (second.start ≡ cover.first.end) × ((second.end ≡ end) × IsSubtree second.start second.end))
