-- The whole answer to a consistency proof of a subtree (the draft on Merkle Tree Certificates,
-- where it verifies them).
use Rattle.std.specs.Prelude.{◌≡◌, ℕ, ◌≤◌, true, nat_le, not, if◌then◌else◌, List, Option, Some}
use Rattle.std.specs.Prelude.{None, Result, Ok, Err, bytes_eq}
use Rattle.byte_formats.specs.Types.{Hash, HashFunction}
use Rattle.tree_core.specs.Subtree.{is_subtree}
use Rattle.tree_proofs.specs.declared.error.ConsistError.{ConsistError}
use Rattle.tree_proofs.specs.declared.error.ConsistError.TheVariants.{BadSubtree, Beyond}
use Rattle.tree_proofs.specs.declared.error.ConsistError.TheVariants.{WrongLength, WrongNode}
use Rattle.tree_proofs.specs.declared.error.ConsistError.TheVariants.{WrongRoot}
use Rattle.tree_proofs.specs.declared.outcome.Opened.{Opened}
use Rattle.tree_proofs.specs.Open.{open_of, opened_at}

-- What a proof gave, against the hash of the subtree and the root.
abbrev pub compared : Hash → Hash → Option Opened → Result (Unit {0}) ConsistError
compared node root None = Err WrongLength
compared node root (Some o) =
    if not (bytes_eq o.subtree node) then Err WrongNode
    else (if not (bytes_eq o.root root) then Err WrongRoot else Ok tt)

-- The first refusal that holds, or none.
unfoldable pub consistency : HashFunction → ℕ → ℕ → ℕ → Hash → Hash → List Hash
    → Result (Unit {0}) ConsistError
consistency h start end size node root proof =
    if not (is_subtree start end) then Err BadSubtree
    else (if not (nat_le end size) then Err Beyond
    else compared node root (open_of h start end size true node proof))

-- The proof checks: it is one of a subtree within the size, and gives the subtree's hash and the
-- root.
pub record Checks (h : HashFunction) (start end size : ℕ) (node root : Hash)
    (proof : List Hash) : Type 0 where
  pub valid : is_subtree start end ≡ true
  pub within : end ≤ size
  pub opens : open_of h start end size true node proof ≡ Some (opened_at node root)
