-- The leaf hashes of entries.
use Rattle.std.proofs.Common.{◌≡◌, ℕ, ◌-◌, List, take, drop, ap, sym, ◌∙◌}
use Rattle.std.specs.Prelude.{map}
use Rattle.std.proofs.lemmas.List.{drop-map, take-map}
use Rattle.tree_core.specs.Path.{part_of}
use Rattle.tree_core.specs.Tree.{leaf_hash, root_of, tree_hash}

-- the tree hash of a part of the entries is the root over that part of the leaf hashes
pub part_root : (h : List ℕ → List ℕ) (entries : List (List ℕ)) (start end : ℕ)
    → tree_hash h (part_of entries start end)
    ≡ root_of h (part_of (map (leaf_hash h) entries) start end)
part_root h entries start end =
    ap (root_of h)
    (sym (take-map (leaf_hash h) (end - start) (drop start entries))
    ∙ ap (take (end - start)) (sym (drop-map (leaf_hash h) start entries)))
