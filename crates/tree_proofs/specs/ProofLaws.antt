-- What holds of consistency proofs, for a hash function h.
use Rattle.std.specs.Prelude.{◌≡◌, ◌≢◌, ◌⊎◌, ℕ, ◌-◌, ◌<◌, ◌≤◌, ◌↔◌, Bool, true, false, List, []}
use Rattle.std.specs.Prelude.{◌∷◌, ◌++◌, length, take, drop, Ok, Err}
use Rattle.byte_formats.specs.Types.{Hash, HashFunction, Text}
use Rattle.tree_core.specs.Laws.{IsLargestPowerBelow, IsSubtree}
use Rattle.tree_core.specs.Path.{part_of}
use Rattle.tree_core.specs.Tree.{tree_hash}
use Rattle.tree_proofs.specs.declared.checkpoint.Checkpoint.{Checkpoint}
use Rattle.tree_proofs.specs.declared.error.ConsistError.TheVariants.{WrongLength}
use Rattle.tree_proofs.specs.Checkpoints.{has_subtree, is_prefix_of}
use Rattle.tree_proofs.specs.Consistency.{Checks, consistency}
use Rattle.tree_proofs.specs.Proof.{consistency_proof, proof_of}

-- The consistency proof of the whole list has no hash where the reader knows its tree hash, and
-- else that one. For more entries, with k the largest power of two below their number: where the
-- interval ends by k, it is the proof in the first k and then the tree hash of the rest; where it
-- starts from k on, the proof in the rest and then the tree hash of the first k; and where it
-- starts with the list, ends above k and is not the whole, the proof of its part in the rest, whose
-- hash the reader doesn't know, and then the tree hash of the first k.
pub record IsConsistencyProof (h : HashFunction) : Type 0 where
  pub known : (entries : List Text) → 0 < length entries
      → consistency_proof h 0 (length entries) true entries ≡ []
  pub whole : (entries : List Text) → 0 < length entries
      → consistency_proof h 0 (length entries) false entries ≡ tree_hash h entries ∷ []
  pub left : (entries : List Text) (start end k : ℕ) (known : Bool)
      → IsLargestPowerBelow (length entries) k → start < end → end ≤ k
      → consistency_proof h start end known entries
      ≡ consistency_proof h start end known (take k entries) ++ tree_hash h (drop k entries) ∷ []
  pub right : (entries : List Text) (start end k : ℕ) (known : Bool)
      → IsLargestPowerBelow (length entries) k → start < end → end ≤ length entries → k ≤ start
      → consistency_proof h start end known entries
      ≡ consistency_proof h (start - k) (end - k) known (drop k entries)
      ++ tree_hash h (take k entries) ∷ []
  pub over : (entries : List Text) (end k : ℕ) (known : Bool)
      → IsLargestPowerBelow (length entries) k → k < end → end < length entries
      → consistency_proof h 0 end known entries
      ≡ consistency_proof h 0 (end - k) false (drop k entries) ++ tree_hash h (take k entries) ∷ []

-- SUBPROOF(m, D[n], known) of RFC 9162 (section 2.1.4.1): the consistency proof of the first m
-- entries, for a reader who knows their tree hash or not. PROOF(m, D[n]), for 0 < m < n, is the one
-- for a reader who knows it.
abbrev pub subproof : HashFunction → ℕ → List Text → Bool → List Hash
subproof h m entries known = consistency_proof h 0 m known entries

-- The section's clauses. For the whole list there is no hash if the reader knows its tree hash, and
-- else that one. For fewer entries, with k the largest power of two below the list's number: where
-- m ≤ k, it is the proof in the first k and then the tree hash of the rest; where m > k, the proof
-- of m - k in the rest, for a reader who doesn't know their tree hash, and then the tree hash of
-- the first k.
pub record IsRfcProof (h : HashFunction) : Type 0 where
  pub known : (entries : List Text) → 0 < length entries
      → subproof h (length entries) entries true ≡ []
  pub whole : (entries : List Text) → 0 < length entries
      → subproof h (length entries) entries false ≡ tree_hash h entries ∷ []
  pub left : (entries : List Text) (m k : ℕ) (known : Bool)
      → IsLargestPowerBelow (length entries) k → 0 < m → m ≤ k
      → subproof h m entries known
      ≡ subproof h m (take k entries) known ++ tree_hash h (drop k entries) ∷ []
  pub right : (entries : List Text) (m k : ℕ) (known : Bool)
      → IsLargestPowerBelow (length entries) k → k < m → m < length entries
      → subproof h m entries known
      ≡ subproof h (m - k) (drop k entries) false ++ tree_hash h (take k entries) ∷ []

-- In a list of entries, for each subtree in it: its consistency proof checks for the tree hash of
-- the subtree and the one of the list.
abbrev pub ProofsCheck : HashFunction → Type 0
ProofsCheck h = (entries : List Text) (start end : ℕ)
    → IsSubtree start end → end ≤ length entries
    → let proof = consistency_proof h start end true entries in
    let node = tree_hash h (part_of entries start end) in
    Checks h start end (length entries) node (tree_hash h entries) proof

-- A proof passes exactly if it checks.
abbrev pub PassesWhereChecks : HashFunction → Type 0
PassesWhereChecks h = (start end size : ℕ) (node root : Hash) (proof : List Hash)
    → (consistency h start end size node root proof ≡ Ok tt)
    ↔ Checks h start end size node root proof

-- For a subtree within the size, the answer is WrongLength exactly if the proof is not as long as
-- the consistency proof of that subtree, whatever the leaves and hashes are.
abbrev pub WrongLengthByProof : HashFunction → Type 0
WrongLengthByProof h = (leaves proof : List Hash) (start end : ℕ) (node root : Hash)
    → IsSubtree start end → end ≤ length leaves
    → (consistency h start end (length leaves) node root proof ≡ Err WrongLength)
    ↔ (length proof ≢ length (proof_of h start end true leaves))

-- The entries of a checkpoint are the first ones of the list with this size and root, by this
-- proof: there are none, and the proof has no hash, or the proof checks.
abbrev pub IsShownPrefix : HashFunction → Checkpoint → ℕ → Hash → List Hash → Type 0
IsShownPrefix h held size root proof =
    ((held.size ≡ 0) × (proof ≡ []))
    ⊎ ((0 < held.size) × Checks h 0 held.size size held.root root proof)

-- What a proof shows of a checkpoint, in these words.
pub record CheckpointsAreShown (h : HashFunction) : Type 0 where
  pub prefix : (held : Checkpoint) (size : ℕ) (root : Hash) (proof : List Hash)
      → (is_prefix_of h held size root proof ≡ true) ↔ IsShownPrefix h held size root proof
  pub subtree : (held : Checkpoint) (start end : ℕ) (hash : Hash) (proof : List Hash)
      → (has_subtree h held start end hash proof ≡ true)
      ↔ Checks h start end held.size hash held.root proof
