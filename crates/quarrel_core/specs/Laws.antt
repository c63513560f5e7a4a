-- What holds of joined proofs and of proofs of one subtree, for a hash function h.
use Rattle.std.specs.Prelude.{◌≡◌, ◌⊎◌, ℕ, ◌≤◌, true, List, length, take}
use Rattle.std.specs.List.{Contains}
use Rattle.byte_formats.specs.Types.{Hash, HashFunction, Text}
use Rattle.tree_core.specs.Laws.{IsSubtree}
use Rattle.tree_core.specs.Path.{part_of}
use Rattle.tree_core.specs.Tree.{tree_hash}
use Rattle.tree_proofs.specs.Consistency.{Checks}
use Rattle.tree_proofs.specs.Proof.{consistency_proof}
use Rattle.tree_proofs.specs.declared.checkpoint.Checkpoint.{Checkpoint}
use Rattle.collide.specs.Extraction.{HasCollision, IsCollision}
use Rattle.collide.specs.Inputs.{open_inputs_of}
use Rattle.quarrel_core.specs.Sizes.{AreFullHashes}
use Rattle.quarrel_core.specs.Joining.{joined_of}
use Rattle.quarrel_core.specs.declared.joined.Joined.{Joined}
use Rattle.quarrel_core.specs.declared.joined.Joined.TheVariants.{Neither, Pair, Proof}

-- A joined proof checks for the subtree in the longer list, and hashes no string that neither proof
-- hashes.
pub record IsJoined (h : HashFunction) (start end size : ℕ) (node root : Hash)
    (firsts seconds : List Text) (proof : List Hash) : Type 0 where
  pub checks : Checks h start end size node root proof
  pub inputs : (t : Text) → Contains (open_inputs_of h start end size true node proof) t
      → Contains firsts t ⊎ Contains seconds t
  pub whole : AreFullHashes proof

-- Such a proof, or two strings with one hash, one of each proof.
abbrev pub Joins : HashFunction → ℕ → ℕ → ℕ → Hash → Hash → List Text → List Text → Joined → Type 0
Joins h start end size node root firsts seconds (Proof proof) =
    IsJoined h start end size node root firsts seconds proof
Joins h start end size node root firsts seconds (Pair x y) = IsCollision h firsts seconds x y
Joins h start end size node root firsts seconds Neither = ⊥

-- Two proofs and what is made of them: where the first checks for a subtree's hash in what is held,
-- and the second for what is held in n entries with any root, they join.
abbrev pub JoinsIfBothCheck : HashFunction → ℕ → ℕ → Checkpoint → ℕ → Hash → List Hash → List Hash
    → Joined → Type 0
JoinsIfBothCheck h start end held n node first second joined = (root : Hash)
    → Checks h start end held.size node held.root first
    → Checks h 0 held.size n held.root root second
    → Joins h start end n node root (open_inputs_of h start end held.size true node first)
    (open_inputs_of h 0 held.size n true held.root second) joined

-- Two proofs of 32-byte hashes, of which the first checks for a subtree's hash in n entries with
-- the hash `prefix`, and the second for these entries in m with the hash `root`.
abbrev pub ProofsJoin : HashFunction → Type 0
ProofsJoin h = (start end n m : ℕ) (node prefix root : Hash) (first second : List Hash) → n ≤ m
    → AreFullHashes first → AreFullHashes second
    → Checks h start end n node prefix first → Checks h 0 n m prefix root second
    → Joins h start end m node root (open_inputs_of h start end n true node first)
    (open_inputs_of h 0 n m true prefix second) (joined_of h start end n m node prefix first second)

-- Two proofs of 32-byte hashes of one subtree, at one size and root, have one hash for it, or there
-- are two strings with one hash, one of each.
abbrev pub OneSubtree : HashFunction → Type 0
OneSubtree h = (start end size : ℕ) (node other root : Hash) (first second : List Hash)
    → AreFullHashes first → AreFullHashes second
    → Checks h start end size node root first → Checks h start end size other root second
    → (node ≡ other) ⊎ HasCollision h (open_inputs_of h start end size true node first)
    (open_inputs_of h start end size true other second)

-- The made proofs of a subtree in the first n of some entries, and of these n, join to the made
-- proof of the subtree.
abbrev pub MadeProofsJoin : HashFunction → Type 0
MadeProofsJoin h = (entries : List Text) (start end n : ℕ)
    → IsSubtree start end → end ≤ n → n ≤ length entries
    → joined_of h start end n (length entries) (tree_hash h (part_of entries start end))
    (tree_hash h (take n entries)) (consistency_proof h start end true (take n entries))
    (consistency_proof h 0 n true entries)
    ≡ Proof (consistency_proof h start end true entries)
