-- What an inclusion path evaluates to (RFC 9162, section 2.1.3.2): the inverse of the standard's
-- PATH (section 2.1.3.1), from the root down.
use Rattle.std.specs.Prelude.{ℕ, ◌-◌, ◌%◌, ◌&&◌, ◌==◌, nat_lt, nat_le, not, if◌then◌else◌, List, []}
use Rattle.std.specs.Prelude.{◌∷◌, reverse, Option, Some, None, option_map, Result, Err, ok_or}
use Rattle.byte_formats.specs.Types.{Hash, HashFunction}
use Rattle.tree_core.specs.declared.error.EvalError.{EvalError}
use Rattle.tree_core.specs.declared.error.EvalError.TheVariants.{BadSubtree, Outside, WrongLength}
use Rattle.tree_core.specs.Split.{split_of}
use Rattle.tree_core.specs.Subtree.{is_subtree}
use Rattle.tree_core.specs.Tree.{pair_hash}

-- The root of a tree of n leaves that has this leaf hash at index m, by the siblings of its nodes
-- from the root's children down. For one leaf it is that leaf, if m is 0 and no sibling is left.
-- For more leaves the first sibling is the right one if m lies left of the split, and else the left
-- one. It has no value in all other cases.
unfoldable pub eval_from_root : HashFunction → ℕ → ℕ → Hash → List Hash → Option Hash
eval_from_root h m n leaf [] = if (m == 0) && (n == 1) then Some leaf else None
eval_from_root h m n leaf (z ∷ q) =
    let k = split_of n in
    if nat_le n 1 then None
    else (if nat_lt m k
    then option_map (λ a. pair_hash h a z) (eval_from_root h m k leaf q)
    else option_map (λ a. pair_hash h z a) (eval_from_root h (m - k) (n - k) leaf q))

-- The same by an inclusion path, whose last hash is the sibling below the root.
unfoldable pub eval_of : HashFunction → ℕ → ℕ → Hash → List Hash → Option Hash
eval_of h m n leaf path = eval_from_root h m n leaf (reverse path)

-- The node above the node at index m of its level and its sibling, which is on the right of an even
-- index.
abbrev pub parent_hash : HashFunction → ℕ → Hash → Hash → Hash
parent_hash h m node sibling =
    if m % 2 == 0 then pair_hash h node sibling else pair_hash h sibling node

-- The whole answer for the entry at index in the subtree [start, end): the first refusal that
-- holds, or the subtree's hash.
unfoldable pub evaluation : HashFunction → Hash → ℕ → ℕ → ℕ → List Hash → Result Hash EvalError
evaluation h leaf index start end path =
    if not (is_subtree start end) then Err BadSubtree
    else (if not (nat_le start index && nat_lt index end) then Err Outside
    else ok_or (eval_of h (index - start) (end - start) leaf path) WrongLength)
