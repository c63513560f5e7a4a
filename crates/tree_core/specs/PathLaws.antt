-- What holds of inclusion paths (RFC 9162, sections 2.1.3 and 2.1.3.1) and their evaluation, for a
-- hash function h.
use Rattle.std.specs.Prelude.{◌≡◌, ◌≢◌, ℕ, ◌-◌, ◌<◌, ◌≤◌, ◌↔◌, List, [], ◌∷◌, ◌++◌, length, take}
use Rattle.std.specs.Prelude.{drop, slice_index_or, IsSome, Some, Ok, Err}
use Rattle.byte_formats.specs.Types.{Hash, HashFunction, Text}
use Rattle.tree_core.specs.declared.error.EvalError.TheVariants.{WrongLength}
use Rattle.tree_core.specs.Evaluation.{eval_of, evaluation}
use Rattle.tree_core.specs.Laws.{IsLargestPowerBelow, IsSubtree}
use Rattle.tree_core.specs.Path.{inclusion_path, part_of, path_of}
use Rattle.tree_core.specs.Tree.{leaf_hash, root_of, tree_hash}

-- The inclusion path of the one entry of a list has no hash; that of entry m of more is, for k the
-- largest power of two below their number, the path in the first k and then the tree hash of the
-- rest where m is below k, and else the path in the rest and then the tree hash of the first k.
pub record IsInclusionPath (h : HashFunction) : Type 0 where
  pub one : (entry : Text) → inclusion_path h 0 (entry ∷ []) ≡ []
  pub left : (entries : List Text) (m k : ℕ) → IsLargestPowerBelow (length entries) k → m < k
      → inclusion_path h m entries
      ≡ inclusion_path h m (take k entries) ++ tree_hash h (drop k entries) ∷ []
  pub right : (entries : List Text) (m k : ℕ) → IsLargestPowerBelow (length entries) k
      → k ≤ m → m < length entries
      → inclusion_path h m entries
      ≡ inclusion_path h (m - k) (drop k entries) ++ tree_hash h (take k entries) ∷ []

-- The inclusion path of a leaf evaluates to the root.
abbrev pub PathsEvaluate : HashFunction → Type 0
PathsEvaluate h = (leaves : List Hash) (m : ℕ) → m < length leaves
    → let leaf = slice_index_or leaves m [] in
    eval_of h m (length leaves) leaf (path_of h m leaves) ≡ Some (root_of h leaves)

-- A path has a value exactly if it is as long as the inclusion path.
abbrev pub PathsByLength : HashFunction → Type 0
PathsByLength h = (leaves path : List Hash) (m : ℕ) (leaf : Hash) → m < length leaves
    → IsSome (eval_of h m (length leaves) leaf path) ↔ (length path ≡ length (path_of h m leaves))

-- In a list of entries, for each subtree and each entry in it: its inclusion path there is answered
-- with the tree hash of the subtree.
abbrev pub SubtreePathsEvaluate : HashFunction → Type 0
SubtreePathsEvaluate h = (entries : List Text) (index start end : ℕ)
    → IsSubtree start end → end ≤ length entries → start ≤ index → index < end
    → let part = part_of entries start end in
    let entry = slice_index_or entries index [] in
    let path = inclusion_path h (index - start) part in
    evaluation h (leaf_hash h entry) index start end path ≡ Ok (tree_hash h part)

-- In a subtree and for an index in it, the answer is WrongLength exactly if the path is not as long
-- as the inclusion path of that index, whatever the leaves are.
abbrev pub WrongLengthByPath : HashFunction → Type 0
WrongLengthByPath h = (leaves path : List Hash) (index start end : ℕ) (leaf : Hash)
    → IsSubtree start end → start ≤ index → index < end → length leaves ≡ end - start
    → (evaluation h leaf index start end path ≡ Err WrongLength)
    ↔ (length path ≢ length (path_of h (index - start) leaves))
