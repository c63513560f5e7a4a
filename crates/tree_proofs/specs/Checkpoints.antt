-- A list's size and tree hash, and what a consistency proof shows of it.
use Rattle.std.specs.Prelude.{ℕ, ◌==◌, Bool, List, [], length, is_ok, if◌then◌else◌}
use Rattle.byte_formats.specs.Types.{Hash, HashFunction}
use Rattle.tree_proofs.specs.declared.checkpoint.Checkpoint.{Checkpoint}
use Rattle.tree_proofs.specs.Consistency.{consistency}

-- of no entries, whose tree hash is that of no bytes
abbrev pub empty_checkpoint : HashFunction → Checkpoint
empty_checkpoint h = record { size = 0; root = h [] }

-- The entries that are held are the first ones of the list with this size and root, by this proof.
-- For no entries it is the proof of no hashes.
abbrev pub is_prefix_of : HashFunction → Checkpoint → ℕ → Hash → List Hash → Bool
is_prefix_of h held size root proof =
    if held.size == 0 then length proof == 0
    else is_ok (consistency h 0 held.size size held.root root proof)

-- The hash is that of the subtree [start, end) of the entries that are held, by this proof.
abbrev pub has_subtree : HashFunction → Checkpoint → ℕ → ℕ → Hash → List Hash → Bool
has_subtree h held start end hash proof =
    is_ok (consistency h start end held.size hash held.root proof)
