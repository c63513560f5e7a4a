-- What a mirror asks of a cosigner: all of it is computed from its entries.
use Rattle.std.specs.Prelude.{ℕ, ◌==◌, ◌||◌, true, nat_le, if◌then◌else◌, List, [], take}
use Rattle.byte_formats.specs.Types.{Hash, HashFunction, Text}
use Rattle.cosigner_core.specs.Requests.{AdvanceParts, SubtreeParts}
use Rattle.mirror_core.specs.Folds.{MirrorState, entries_in_mirror}
use Rattle.tree_core.specs.Path.{part_of}
use Rattle.tree_core.specs.Tree.{tree_hash}
use Rattle.tree_proofs.specs.Proof.{consistency_proof}
use Rattle.tree_proofs.specs.declared.checkpoint.Checkpoint.{Checkpoint}

-- The tree hash of as many of the first entries as are held, as far as they are there.
abbrev pub own_root : HashFunction → MirrorState → Checkpoint → Hash
own_root h s held = tree_hash h (take held.size (entries_in_mirror s))

-- The consistency proof of the first old ones of the first new entries. For none there is nothing
-- to prove, and where they aren't fewer nothing can be proved.
abbrev pub growth_proof : HashFunction → List Text → ℕ → ℕ → List Hash
growth_proof h entries old new =
    if (old == 0) || nat_le new old then []
    else consistency_proof h 0 old true (take new entries)

-- To hold the first size entries: the id of the log, their number, their tree hash, and the proof
-- that what is held is among them.
abbrev pub advance_by_mirror : HashFunction → MirrorState → Checkpoint → ℕ → AdvanceParts
advance_by_mirror h s held size = record {
  log = s.log;
  size = size;
  root = tree_hash h (take size (entries_in_mirror s));
  proof = growth_proof h (entries_in_mirror s) held.size size;
}

-- To sign a subtree: the id of the log, the interval, the tree hash of its entries, and its
-- consistency proof in as many of the first entries as are held.
abbrev pub subtree_by_mirror : HashFunction → MirrorState → Checkpoint → ℕ → ℕ → SubtreeParts
subtree_by_mirror h s held start end = record {
  log = s.log;
  start = start;
  end = end;
  hash = tree_hash h (part_of (entries_in_mirror s) start end);
  proof = consistency_proof h start end true (take held.size (entries_in_mirror s));
}
