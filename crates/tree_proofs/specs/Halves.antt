-- The parts of a list (RFC 9162, section 2.1.1).
use Rattle.std.specs.Prelude.{◌≡◌, ◌+◌, ◌<◌, List, length, take, drop}
use Rattle.tree_core.specs.Split.{split_of}

-- Both parts of a list that is split where its tree is, none of which is empty.
pub record AreHalves {T : Type 0} (items prefix back : List T) : Type 0 where
  pub left : prefix ≡ take (split_of (length items)) items
  pub right : back ≡ drop (split_of (length items)) items
  pub count : length prefix ≡ split_of (length items)
  pub some : 0 < length prefix
  pub rest : 0 < length back
  pub all : length prefix + length back ≡ length items
