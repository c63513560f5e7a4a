-- What an interval is after the split of a list.
use Rattle.std.specs.Prelude.{◌≡◌, ℕ, ◌+◌, ◌<◌, ◌≤◌, Bool, false}

-- What an interval [start, end) that ends after a split is there, counted from the split: its own
-- entries if it begins at the split or after it, and then its hash is known if it was; or else all
-- from the first one on, of which the hash isn't known.
pub record IsFollowing (middle start end : ℕ) (known : Bool) (from to : ℕ) (still : Bool)
    : Type 0 where
  pub last : end ≡ middle + to
  pub following : middle ≤ start → (start ≡ middle + from) × (still ≡ known)
  pub over : start < middle → (from ≡ 0) × (still ≡ false)
