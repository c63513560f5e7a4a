-- Two consistency proofs of one interval with one root, level by level, from the root down.
use Rattle.std.specs.Prelude.{ℕ, ◌-◌, ◌&&◌, ◌==◌, Bool, false, nat_le, if◌then◌else◌, List, []}
use Rattle.std.specs.Prelude.{◌∷◌, Option, Some, None}
use Rattle.byte_formats.specs.Types.{Hash, HashFunction}
use Rattle.tree_core.specs.Split.{split_of}
use Rattle.tree_proofs.specs.declared.outcome.Opened.{Opened}
use Rattle.tree_proofs.specs.Open.{open_from_root}
use Rattle.collide.specs.Inputs.{pair_input}
use Rattle.collide.specs.declared.finding.Finding.{Finding}
use Rattle.collide.specs.declared.finding.Finding.TheVariants.{Pair, Same}
use Rattle.quarrel_core.specs.Joining.{same_pair}

-- Both proofs hash a node, by what they gave of its left part and by y and z. If these are the
-- same, what is found is what is found in the left part.
abbrev pub contrast_left : Hash → Hash → Finding → Option Opened → Option Opened → Finding
contrast_left y z rest (Some one) (Some other) =
    if same_pair one.root y other.root z then rest
    else Pair (pair_input one.root y) (pair_input other.root z)
contrast_left y z rest (Some one) None = Same
contrast_left y z rest None other = Same

-- The same where the interval has entries in the right part.
abbrev pub contrast_after : Hash → Hash → Finding → Option Opened → Option Opened → Finding
contrast_after y z rest (Some one) (Some other) =
    if same_pair y one.root z other.root then rest
    else Pair (pair_input y one.root) (pair_input z other.root)
contrast_after y z rest (Some one) None = Same
contrast_after y z rest None other = Same

-- The strings of the topmost node that both proofs hash, by other hashes, or that there is none.
unfoldable pub contrast_from_root : HashFunction → ℕ → ℕ → ℕ → Bool → Hash → Hash → List Hash
    → List Hash → Finding
contrast_from_root h start end n known node other [] q = Same
contrast_from_root h start end n known node other (y ∷ p) [] = Same
contrast_from_root h start end n known node other (y ∷ p) (z ∷ q) =
    let k = split_of n in
    if (start == 0) && (end == n) then Same
    else (if nat_le end k
    then contrast_left y z (contrast_from_root h start end k known node other p q)
    (open_from_root h start end k known node p) (open_from_root h start end k known other q)
    else (if nat_le k start
    then contrast_after y z
    (contrast_from_root h (start - k) (end - k) (n - k) known node other p q)
    (open_from_root h (start - k) (end - k) (n - k) known node p)
    (open_from_root h (start - k) (end - k) (n - k) known other q)
    else contrast_after y z (contrast_from_root h 0 (end - k) (n - k) false node other p q)
    (open_from_root h 0 (end - k) (n - k) false node p)
    (open_from_root h 0 (end - k) (n - k) false other q)))
