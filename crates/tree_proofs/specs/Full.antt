-- The parts of a subtree: its halves, and the full subtree that it begins with.
use Rattle.std.specs.Prelude.{◌≡◌, ℕ, ◌+◌, ◌-◌, ◌*◌, ◌/◌, ◌^◌, ◌<◌, ◌≤◌, true}
use Rattle.tree_core.specs.Split.{split_of}
use Rattle.tree_core.specs.Subtree.{is_subtree}

-- A subtree of more than one entry is split at middle, and both halves are subtrees.
pub record HasHalves (start middle end : ℕ) : Type 0 where
  pub split : middle ≡ start + split_of (end - start)
  pub from : start < middle
  pub below : middle < end
  pub left : is_subtree start middle ≡ true
  pub right : is_subtree middle end ≡ true

-- A subtree begins with a full one of this level that ends at middle: 2^level entries from a
-- multiple of 2^level on. The rest, if there is one, is the part after the subtree's split.
pub record BeginsFull (start end level middle : ℕ) : Type 0 where
  pub low : level < 64
  pub inside : start < middle
  pub within : middle ≤ end
  pub begins : start / 2 ^ level * 2 ^ level ≡ start
  pub ends : (start / 2 ^ level + 1) * 2 ^ level ≡ middle
  pub split : middle < end → middle ≡ start + split_of (end - start)
  pub rest : middle < end → is_subtree middle end ≡ true
