-- The first entries of a log as a subtree.
use Rattle.std.proofs.Common.{◌≡◌, List, length}
use Rattle.std.proofs.lemmas.List.{take_rest}
use Rattle.byte_formats.specs.Types.{Text}
use Rattle.tree_core.specs.Path.{part_of}

-- all of them as a part
pub all_of : (entries : List Text) → part_of entries 0 (length entries) ≡ entries
all_of entries = take_rest entries 0
