-- What a call over nodes gives, where the model knows their leaf hashes.
use Rattle.std.specs.Prelude.{◌≡◌, ℕ, ◌-◌, Bool, true, List, [], ◌∷◌, ◌++◌, take, Option, IfSome}
use Rattle.byte_formats.specs.Types.{Hash, HashFunction}
use Rattle.tree_core.specs.Path.{part_of, path_of}
use Rattle.tree_core.specs.Tree.{root_of}
use Rattle.tree_proofs.specs.Proof.{proof_of}

-- The hash of the leaves from start up to end.
abbrev pub IsRootOf : HashFunction → Option (List Hash) → ℕ → ℕ → Hash → Type 0
IsRootOf h modelled start end node =
    IfSome modelled (λ leaves. node ≡ root_of h (part_of leaves start end))

-- The inclusion path of the leaf at index in the subtree [start, end).
abbrev pub IsPathOf : HashFunction → Option (List Hash) → ℕ → ℕ → ℕ → List Hash → Type 0
IsPathOf h modelled index start end path =
    IfSome modelled (λ leaves. path ≡ path_of h (index - start) (part_of leaves start end))

-- The consistency proof of the part [start, end) of the leaves from low up to high.
abbrev pub IsProofIn : HashFunction → Option (List Hash) → ℕ → ℕ → ℕ → ℕ → Bool → List Hash
    → Type 0
IsProofIn h modelled low high start end known proof =
    IfSome modelled (λ leaves.
    proof ≡ proof_of h (start - low) (end - low) known (part_of leaves low high))

-- The consistency proof of the subtree [start, end) in the first size leaves.
abbrev pub IsProofOf : HashFunction → Option (List Hash) → ℕ → ℕ → ℕ → List Hash → Type 0
IsProofOf h modelled start end size proof =
    IfSome modelled (λ leaves. proof ≡ proof_of h start end true (take size leaves))

-- The hashes after the call are those before it, and after them the hash of the leaves from start
-- up to end.
pub record HasRootAfter (h : HashFunction) (modelled : Option (List Hash)) (start end : ℕ)
    (before after : List Hash) : Type 0 where
  pub node : Hash
  pub root : IsRootOf h modelled start end node
  pub text : after ≡ before ++ node ∷ []
