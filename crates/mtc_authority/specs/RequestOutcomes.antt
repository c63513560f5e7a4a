-- The outcomes of the commands `consist` and `subtree`: requests to a cosigner of the log.
use Rattle.std.specs.Prelude.{ℕ, ◌==◌, true, nat_lt, nat_le, not, List, [], length, take, map}
use Rattle.std.specs.Prelude.{codes, if◌then◌else◌}
use Rattle.byte_formats.specs.Types.{Hash, HashFunction, Text}
use Rattle.cosigner_core.specs.Requests.{AdvanceParts, SubtreeParts, advance_text, subtree_text}
use Rattle.issuance_log.specs.Folds.{LogState}
use Rattle.tree_core.specs.Path.{part_of}
use Rattle.tree_core.specs.Subtree.{is_subtree}
use Rattle.tree_core.specs.Tree.{leaf_hash, tree_hash}
use Rattle.tree_proofs.specs.Proof.{proof_of}
use Rattle.mtc_command.specs.declared.answer.Said.TheVariants.{Done}
use Rattle.mtc_command.specs.Answers.{Reply, said}
use Rattle.mtc_authority.specs.LogOutcomes.{beyond, not_allowed}

-- The consistency proof of the subtree [start, end) in the first size entries.
abbrev pub prefix_proof : HashFunction → List Text → ℕ → ℕ → ℕ → List Hash
prefix_proof h entries start end size =
    proof_of h start end true (map (leaf_hash h) (take size entries))

-- The first new entries: the id of the log, their number, their tree hash, and the proof that the
-- first old ones are among them. For no old ones there is nothing to prove.

abbrev pub growth_at : HashFunction → List Text → ℕ → ℕ → List Hash
growth_at h entries old new = if old == 0 then [] else prefix_proof h entries 0 old new

abbrev pub advance_by_log : HashFunction → LogState → ℕ → ℕ → AdvanceParts
advance_by_log h s old new = record {
  log = s.settings.id;
  size = new;
  root = tree_hash h (take new s.entries);
  proof = growth_at h s.entries old new;
}

-- There must be more of them than old ones, and the log must have them.
abbrev pub consist_reply : HashFunction → ℕ → ℕ → LogState → Reply
consist_reply h old new s =
    if nat_le new old then not_allowed (codes "NothingNew")
    else (if nat_lt (length s.entries) new then beyond (length s.entries)
    else said Done (advance_text (advance_by_log h s old new)))

-- A subtree: the id of the log, the interval, the tree hash of its entries, and its consistency
-- proof in the first size entries.

abbrev pub subtree_of : HashFunction → LogState → ℕ → ℕ → ℕ → SubtreeParts
subtree_of h s start end size = record {
  log = s.settings.id;
  start = start;
  end = end;
  hash = tree_hash h (part_of s.entries start end);
  proof = prefix_proof h s.entries start end size;
}

-- The interval must be a subtree, the log must have so many entries, and the subtree must lie among
-- them.
abbrev pub subtree_reply : HashFunction → ℕ → ℕ → ℕ → LogState → Reply
subtree_reply h start end size s =
    if not (is_subtree start end) then not_allowed (codes "BadSubtree")
    else (if nat_lt (length s.entries) size then beyond (length s.entries)
    else (if nat_lt size end then beyond size
    else said Done (subtree_text (subtree_of h s start end size))))
