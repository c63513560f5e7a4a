-- The records of a mirror that begin with the items of another.
use Rattle.std.proofs.Common.{◌≡◌, List, ◌++◌, Ok}
use Rattle.byte_formats.specs.Types.{HashFunction, Text}
use Rattle.mirror_core.specs.Folds.{MirrorState, mirror_of}

-- The records are those of a mirror of the same log, whose items begin with those of this one.
pub record HasShownItems (h : HashFunction) (s : MirrorState) (list : List Text) : Type 0 where
  pub state : MirrorState
  pub is_mirror : mirror_of h list ≡ Ok state
  pub log : state.log ≡ s.log
  pub more : List (Text × Text)
  pub begins : state.items ≡ s.items ++ more
