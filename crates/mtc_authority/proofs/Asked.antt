-- Subtrees and proofs over the leaf hashes of entries.
use Rattle.std.proofs.Common.{◌≡◌, ◌≢◌, ◌-◌, ℕ, ◌∙◌, true, List, [], take, ap, sym, arith}
use Rattle.std.proofs.Common.{Option, Some, None, IfSome, IfOk, Result, Ok, Err, option_map, refl}
use Rattle.std.proofs.lemmas.Grind.{common_steps}
use Rattle.std.specs.Prelude.{map}
use Rattle.std.proofs.lemmas.List.{take-map}
use Rattle.byte_formats.specs.Types.{Hash, HashFunction, Text}
use Rattle.tree_core.specs.Path.{part_of}
use Rattle.tree_core.specs.Tree.{leaf_hash, root_of, tree_hash}
use Rattle.tree_proofs.specs.Proof.{proof_of}
use Rattle.issuance_log.specs.Folds.{LogState}
use Rattle.issuance_log.proofs.Leaves.{part_root}
use Rattle.mtc_authority.specs.RequestOutcomes.{growth_at, prefix_proof}

-- the first ones as a part
first_part : (h : HashFunction) (entries : List Text) (n : ℕ)
    → tree_hash h (part_of entries 0 n) ≡ tree_hash h (take n entries)
first_part h entries n =
    let all : n - 0 ≡ n = omega arith in ap (λ k. tree_hash h (take k entries)) all

-- ---- if the model knows the log of both disks

abbrev pub leaves_modelled : HashFunction → Option LogState → Option (List Hash)
leaves_modelled h contents = option_map (λ (s : LogState). map (leaf_hash h) s.entries) contents

pub hash_modelled : {E : Type 0} (h : HashFunction) (start end : ℕ) (contents : Option LogState)
    (result : Result Hash E)
    → IfOk result (λ hash. IfSome (leaves_modelled h contents)
    (λ leaves. hash ≡ root_of h (part_of leaves start end)))
    → IfOk result (λ hash. IfSome contents (λ s. hash ≡ tree_hash h (part_of s.entries start end)))
hash_modelled h start end contents (Err e) is = tt
hash_modelled h start end None (Ok hash) is = tt
hash_modelled h start end (Some s) (Ok hash) is = is ∙ sym (part_root h s.entries start end)

pub root_modelled : {E : Type 0} (h : HashFunction) (size : ℕ) (contents : Option LogState)
    (result : Result Hash E)
    → IfOk result (λ hash. IfSome contents (λ s. hash ≡ tree_hash h (part_of s.entries 0 size)))
    → IfOk result (λ hash. IfSome contents (λ s. hash ≡ tree_hash h (take size s.entries)))
root_modelled h size contents (Err e) is = tt
root_modelled h size None (Ok hash) is = tt
root_modelled h size (Some s) (Ok hash) is = is ∙ first_part h s.entries size

pub proof_modelled : (h : HashFunction) (start end size : ℕ) (contents : Option LogState)
    (proof : List Hash)
    → IfSome (leaves_modelled h contents)
    (λ leaves. proof ≡ proof_of h start end true (take size leaves))
    → IfSome contents (λ s. proof ≡ prefix_proof h s.entries start end size)
proof_modelled h start end size None proof is = tt
proof_modelled h start end size (Some s) proof is =
    is ∙ ap (proof_of h start end true) (take-map (leaf_hash h) size s.entries)

pub no_growth : (h : HashFunction) (old new : ℕ) → old ≡ 0 → (contents : Option LogState)
    → IfSome contents (λ s. [] ≡ growth_at h s.entries old new)
no_growth h old new none None = tt
no_growth h old new none (Some s) = rw none refl

pub growth_modelled : {E : Type 0} (h : HashFunction) (old new : ℕ) → old ≢ 0
    → (contents : Option LogState) (result : Result (List Hash) E)
    → IfOk result (λ proof. IfSome contents (λ s. proof ≡ prefix_proof h s.entries 0 old new))
    → IfOk result (λ proof. IfSome contents (λ s. proof ≡ growth_at h s.entries old new))
growth_modelled h old new some contents (Err e) is = tt
growth_modelled h old new some None (Ok proof) is = tt
growth_modelled h old new some (Some s) (Ok proof) is = grind (arith, common_steps)
