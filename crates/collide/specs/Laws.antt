-- What holds of the strings that are hashed (RFC 9162, section 2.1.1), for a hash function h.
use Rattle.std.specs.Prelude.{◌≡◌, ℕ, ◌-◌, ◌≤◌, ◌⊎◌, List, [], ◌∷◌, ◌++◌, length, take}
use Rattle.std.specs.Prelude.{drop, slice_index_or, true, Ok}
use Rattle.std.specs.List.{AllByRecursion}
use Rattle.byte_formats.specs.Types.{Hash, HashFunction, Text}
use Rattle.tree_core.specs.Evaluation.{evaluation}
use Rattle.tree_core.specs.Laws.{IsLargestPowerBelow}
use Rattle.tree_core.specs.Path.{part_of}
use Rattle.tree_core.specs.Tree.{leaf_hash, tree_hash}
use Rattle.tree_proofs.specs.Consistency.{Checks}
use Rattle.collide.specs.Extraction.{HasCollision}
use Rattle.collide.specs.Inputs.{eval_inputs_of, inputs_of, leaf_input, open_inputs_of, pair_input}

-- The strings in the tree hash of no entries: the empty one; of one: that of the leaf; of more, for
-- k the largest power of two below their number: that of both tree hashes, and those in both.
pub record AreInputs (h : HashFunction) : Type 0 where
  pub none : inputs_of h [] ≡ [] ∷ []
  pub one : (entry : Text) → inputs_of h (entry ∷ []) ≡ leaf_input entry ∷ []
  pub more : (entries : List Text) (k : ℕ) → IsLargestPowerBelow (length entries) k
      → inputs_of h entries
      ≡ pair_input (tree_hash h (take k entries)) (tree_hash h (drop k entries))
      ∷ inputs_of h (take k entries) ++ inputs_of h (drop k entries)

-- A proof of 32-byte hashes that checks for a list's length and tree hash checks for the tree hash
-- of the list's own subtree, or the list and the proof show two strings with one hash.
abbrev pub ProofsExtract : HashFunction → Type 0
ProofsExtract h = (entries : List Text) (start end : ℕ) (node : Hash) (proof : List Hash)
    → AllByRecursion (λ hash. length hash ≡ 32) proof
    → Checks h start end (length entries) node (tree_hash h entries) proof
    → (tree_hash h (part_of entries start end) ≡ node) ⊎ HasCollision h (inputs_of h entries)
    (open_inputs_of h start end (length entries) true node proof)

-- An inclusion path of 32-byte hashes that gives the tree hash of a list's own subtree is that of
-- the entry that the list has there, or the list and the path show two strings with one hash.
abbrev pub PathsExtract : HashFunction → Type 0
PathsExtract h = (entries : List Text) (start end index : ℕ) (entry : Text) (path : List Hash)
    → AllByRecursion (λ hash. length hash ≡ 32) path → end ≤ length entries
    → evaluation h (leaf_hash h entry) index start end path
    ≡ Ok (tree_hash h (part_of entries start end))
    → (slice_index_or entries index [] ≡ entry) ⊎ HasCollision h
    (inputs_of h (part_of entries start end))
    (eval_inputs_of h (index - start) (end - start) entry path)

-- Two lists of one length and one tree hash are the same, or they show two strings with one hash.
abbrev pub ListsExtract : HashFunction → Type 0
ListsExtract h = (first second : List Text) → length first ≡ length second
    → tree_hash h first ≡ tree_hash h second
    → (first ≡ second) ⊎ HasCollision h (inputs_of h first) (inputs_of h second)
