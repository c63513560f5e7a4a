-- The strings that are hashed: in the tree hash of a list (RFC 9162, section 2.1.1), in the
-- evaluation of an inclusion path (section 2.1.3) and in the opening of a consistency proof (the
-- draft on Merkle Tree Certificates, where it verifies them).
use Rattle.std.specs.Prelude.{ℕ, zero, suc, ◌-◌, ◌&&◌, ◌==◌, Bool, false, nat_lt, nat_le}
use Rattle.std.specs.Prelude.{if◌then◌else◌, List, [], ◌∷◌, ◌++◌, length, take, drop, reverse}
use Rattle.std.specs.Prelude.{Option, Some, None}
use Rattle.byte_formats.specs.Types.{Hash, HashFunction, Text}
use Rattle.tree_core.specs.Evaluation.{eval_from_root}
use Rattle.tree_core.specs.Split.{split_of}
use Rattle.tree_core.specs.Tree.{leaf_hash, tree_hash}
use Rattle.tree_proofs.specs.declared.outcome.Opened.{Opened}
use Rattle.tree_proofs.specs.Open.{open_from_root}

-- The string that is hashed for an entry as a leaf, and the one for a pair of nodes.
abbrev pub leaf_input : Text → Text
leaf_input entry = 0 ∷ entry

abbrev pub pair_input : Hash → Hash → Text
pair_input left right = 1 ∷ left ++ right

-- The strings in the tree hash of a list: of no entries the empty one, of one entry that of the
-- leaf, of more that of the pair at the root and those in both parts. The first number bounds the
-- depth.
unfoldable pub inputs_within : ℕ → HashFunction → List Text → List Text
inputs_within zero h entries = [] ∷ []
inputs_within (suc depth) h [] = [] ∷ []
inputs_within (suc depth) h (entry ∷ []) = leaf_input entry ∷ []
inputs_within (suc depth) h (c ∷ d ∷ rest) =
    let entries = c ∷ d ∷ rest in
    let left = take (split_of (length entries)) entries in
    let right = drop (split_of (length entries)) entries in
    pair_input (tree_hash h left) (tree_hash h right)
    ∷ inputs_within depth h left ++ inputs_within depth h right

-- The same at a depth that suffices.
unfoldable pub inputs_of : HashFunction → List Text → List Text
inputs_of h entries = inputs_within (length entries) h entries

-- The string for the pair of a node, where it has a value, and its sibling on the right.
abbrev pub input_before : Hash → Option Hash → List Text
input_before z None = []
input_before z (Some node) = pair_input node z ∷ []

-- The same with the sibling on the left.
abbrev pub input_after : Hash → Option Hash → List Text
input_after z None = []
input_after z (Some node) = pair_input z node ∷ []

-- The strings of the pairs in the evaluation of a path from the root down, at index m of n leaves.
unfoldable pub eval_inputs_from_root : HashFunction → ℕ → ℕ → Hash → List Hash → List Text
eval_inputs_from_root h m n leaf [] = []
eval_inputs_from_root h m n leaf (z ∷ q) =
    let k = split_of n in
    if nat_lt m k
    then input_before z (eval_from_root h m k leaf q) ++ eval_inputs_from_root h m k leaf q
    else input_after z (eval_from_root h (m - k) (n - k) leaf q)
    ++ eval_inputs_from_root h (m - k) (n - k) leaf q

-- The strings in the evaluation of an entry's inclusion path, with that of the leaf.
unfoldable pub eval_inputs_of : HashFunction → ℕ → ℕ → Text → List Hash → List Text
eval_inputs_of h m n entry path =
    leaf_input entry ∷ eval_inputs_from_root h m n (leaf_hash h entry) (reverse path)

-- The strings for the pairs at a list's root by what the proof gave of one of its parts: of the
-- left one; of the right one; and of the right one where the subtree holds the left one too, so
-- that its own hash is of a pair as well.
abbrev pub inputs_left : Hash → Option Opened → List Text
inputs_left z None = []
inputs_left z (Some o) = pair_input o.root z ∷ []

abbrev pub inputs_right : Hash → Option Opened → List Text
inputs_right z None = []
inputs_right z (Some o) = pair_input z o.root ∷ []

abbrev pub inputs_over : Hash → Option Opened → List Text
inputs_over z None = []
inputs_over z (Some o) = pair_input z o.root ∷ pair_input z o.subtree ∷ []

-- The strings in the opening of a proof from the root down, of the subtree [start, end) of n
-- leaves.
unfoldable pub open_inputs_from_root : HashFunction → ℕ → ℕ → ℕ → Bool → Hash → List Hash
    → List Text
open_inputs_from_root h start end n known node [] = []
open_inputs_from_root h start end n known node (z ∷ q) =
    let k = split_of n in
    if (start == 0) && (end == n) then []
    else (if nat_le end k
    then inputs_left z (open_from_root h start end k known node q)
    ++ open_inputs_from_root h start end k known node q
    else (if nat_le k start
    then inputs_right z (open_from_root h (start - k) (end - k) (n - k) known node q)
    ++ open_inputs_from_root h (start - k) (end - k) (n - k) known node q
    else inputs_over z (open_from_root h 0 (end - k) (n - k) false node q)
    ++ open_inputs_from_root h 0 (end - k) (n - k) false node q))

-- The strings in the opening of a consistency proof.
unfoldable pub open_inputs_of : HashFunction → ℕ → ℕ → ℕ → Bool → Hash → List Hash → List Text
open_inputs_of h start end n known node proof =
    open_inputs_from_root h start end n known node (reverse proof)
