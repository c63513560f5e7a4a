-- What a consistency proof of a subtree gives: the inverse of the proof that the draft on Merkle
-- Tree Certificates makes, from the root down.
use Rattle.std.specs.Prelude.{ℕ, ◌-◌, ◌&&◌, ◌==◌, Bool, true, false, nat_le, if◌then◌else◌, List}
use Rattle.std.specs.Prelude.{[], ◌∷◌, reverse, Option, Some, None, option_map}
use Rattle.byte_formats.specs.Types.{Hash, HashFunction}
use Rattle.tree_core.specs.Split.{split_of}
use Rattle.tree_core.specs.Tree.{pair_hash}
use Rattle.tree_proofs.specs.declared.outcome.Opened.{Opened}

-- These two hashes.
abbrev pub opened_at : Hash → Hash → Opened
opened_at subtree root = record { subtree = subtree; root = root }

-- The left part of a list was opened, and z is the root of its right part.
abbrev pub root_left_of : HashFunction → Hash → Opened → Opened
root_left_of h z o = opened_at o.subtree (pair_hash h o.root z)

-- The right part of a list was opened, and z is the root of its left part.
abbrev pub root_right_of : HashFunction → Hash → Opened → Opened
root_right_of h z o = opened_at o.subtree (pair_hash h z o.root)

-- The same where the subtree holds the left part too.
abbrev pub both_right_of : HashFunction → Hash → Opened → Opened
both_right_of h z o = opened_at (pair_hash h z o.subtree) (pair_hash h z o.root)

-- The subtree is the whole list: its hash is known, or it is the one hash that is left.
abbrev pub open_whole : Bool → Hash → List Hash → Option Opened
open_whole true node [] = Some (opened_at node node)
open_whole false node (x ∷ []) = Some (opened_at x x)
open_whole _ _ _ = None

-- The hash of the subtree [start, end) and the root of a list of n leaves, by the subtree's own
-- hash, where it is known, and the nodes beside it from the root's children down. No value in all
-- other cases.
unfoldable pub open_from_root : HashFunction → ℕ → ℕ → ℕ → Bool → Hash → List Hash
    → Option Opened
open_from_root h start end n known node [] =
    if (start == 0) && (end == n) then open_whole known node [] else None
open_from_root h start end n known node (z ∷ q) =
    let k = split_of n in
    if (start == 0) && (end == n) then open_whole known node (z ∷ q)
    else (if nat_le n 1 then None
    else (if nat_le end k
    then option_map (root_left_of h z) (open_from_root h start end k known node q)
    else (if nat_le k start
    then option_map (root_right_of h z)
    (open_from_root h (start - k) (end - k) (n - k) known node q)
    else (if start == 0
    then option_map (both_right_of h z) (open_from_root h 0 (end - k) (n - k) false node q)
    else None))))

-- The same by a consistency proof, whose last hash is the node below the root.
unfoldable pub open_of : HashFunction → ℕ → ℕ → ℕ → Bool → Hash → List Hash → Option Opened
open_of h start end n known node proof = open_from_root h start end n known node (reverse proof)
