-- Two consistency proofs joined: one of a subtree in the first entries of a list, and one of these
-- first entries in a longer list. Proofs are read from the root down, as they are opened.
use Rattle.std.specs.Prelude.{ℕ, ◌-◌, ◌&&◌, ◌==◌, Bool, true, false, nat_le, bytes_eq}
use Rattle.std.specs.Prelude.{if◌then◌else◌, List, [], ◌∷◌, reverse, Option, Some, None}
use Rattle.byte_formats.specs.Types.{Hash, HashFunction}
use Rattle.tree_core.specs.Split.{split_of}
use Rattle.tree_proofs.specs.declared.outcome.Opened.{Opened}
use Rattle.tree_proofs.specs.Open.{open_from_root}
use Rattle.collide.specs.Inputs.{pair_input}
use Rattle.quarrel_core.specs.declared.joined.Joined.{Joined}
use Rattle.quarrel_core.specs.declared.joined.Joined.TheVariants.{Neither, Pair, Proof}

-- A proof with one hash more before its first.
abbrev pub joined_with : Hash → Joined → Joined
joined_with z (Proof proof) = Proof (z ∷ proof)
joined_with z (Pair x y) = Pair x y
joined_with z Neither = Neither

-- The same with the hashes of a proof in the other order.
abbrev pub joined_turned : Joined → Joined
joined_turned (Proof proof) = Proof (reverse proof)
joined_turned (Pair x y) = Pair x y
joined_turned Neither = Neither

-- Two nodes have the same hashes below them.
abbrev pub same_pair : Hash → Hash → Hash → Hash → Bool
same_pair a b c d = bytes_eq a c && bytes_eq b d

-- Both proofs hash the left part of the longer list's node: the first proof by what it gave of the
-- left part and by y, the second by z and by what it gave of the prefix's entries in the right
-- part. If these are the same, the root of the whole right part stands beside the subtree.
abbrev pub joined_left : Hash → Hash → List Hash → Option Opened → Option Opened → Joined
joined_left y z p (Some part) (Some beside) =
    if same_pair part.root y z beside.subtree then Proof (beside.root ∷ p)
    else Pair (pair_input part.root y) (pair_input z beside.subtree)
joined_left y z p (Some part) None = Neither
joined_left y z p None beside = Neither

-- The same where the subtree has entries in the right part. If the hashes are the same, both proofs
-- are joined there, and then comes z.
abbrev pub joined_right : Hash → Hash → Joined → Option Opened → Option Opened → Joined
joined_right y z rest (Some part) (Some beside) =
    if same_pair y part.root z beside.subtree then joined_with z rest
    else Pair (pair_input y part.root) (pair_input z beside.subtree)
joined_right y z rest (Some part) None = Neither
joined_right y z rest None beside = Neither

-- The first n entries and the whole list are both split at k, and the subtree isn't all of the
-- first n. The second proof gave `beside` of the right part, and `rest` joins the proofs there: of
-- an interval, of which the hash is known or not, with what is left of the first proof.
abbrev pub joined_over : HashFunction → ℕ → ℕ → ℕ → ℕ → Bool → Hash → Hash → Option Opened
    → (ℕ → ℕ → Bool → List Hash → Joined) → List Hash → Joined
joined_over h start end n k known node z beside rest [] = Neither
joined_over h start end n k known node z beside rest (y ∷ p) =
    if nat_le end k
    then joined_left y z p (open_from_root h start end k known node p) beside
    else (if nat_le k start
    then joined_right y z (rest (start - k) (end - k) known p)
    (open_from_root h (start - k) (end - k) (n - k) known node p) beside
    else joined_right y z (rest 0 (end - k) false p)
    (open_from_root h 0 (end - k) (n - k) false node p) beside)

-- The first proof is of the subtree [start, end) in n entries, the second of these n in m entries,
-- with the hash `prefix`. Where the n are all, it is the first proof. Where they lie left of the
-- split, the proofs are joined there, and then comes z. Where the subtree is all of the n, it is
-- the second proof.
unfoldable pub joined_from_root : HashFunction → ℕ → ℕ → ℕ → ℕ → Bool → Hash → Hash → List Hash
    → List Hash → Joined
joined_from_root h start end n m known node prefix p [] = if n == m then Proof p else Neither
joined_from_root h start end n m known node prefix p (z ∷ q) =
    let k = split_of m in
    if n == m then Proof p
    else (if nat_le n k
    then joined_with z (joined_from_root h start end n k known node prefix p q)
    else (if (start == 0) && (end == n) then Proof (z ∷ q)
    else joined_over h start end n k known node z
    (open_from_root h 0 (n - k) (m - k) false prefix q)
    (λ from to still rest.
    joined_from_root h from to (n - k) (m - k) still node prefix rest q) p))

-- The same of proofs whose lowest hash comes first: the proof of the subtree in m entries, or the
-- strings of the topmost node that both hash, by other hashes. Neither, where a proof has another
-- length.
unfoldable pub joined_of : HashFunction → ℕ → ℕ → ℕ → ℕ → Hash → Hash → List Hash → List Hash
    → Joined
joined_of h start end n m node prefix first second =
    joined_turned (joined_from_root h start end n m true node prefix (reverse first)
    (reverse second))
