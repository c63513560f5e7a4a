use Rattle.std.proofs.Common.{◌≡◌, ℕ, List, [], ◌∷◌, ◌++◌, ap, ◌∙◌, append_assoc}
use Rattle.byte_formats.specs.Forms.{itself, optional}
use Rattle.log_entry.specs.Entries.{TbsParts, tbs_text}
use Rattle.log_entry.specs.Views.{tbs_parts}
use Rattle.log_entry.proofs.hashing.tbs_hash.Goals as goal

-- The pieces that are added, one after the other.
pieces : (p : TbsParts) (algorithm : List ℕ)
    → (((((((([] ++ 0 ∷ []) ++ 0 ∷ 1 ∷ 160 ∷ 3 ∷ 2 ∷ 1 ∷ 2 ∷ []) ++ p.issuer) ++ p.validity_der)
    ++ p.subject) ++ algorithm) ++ 4 ∷ 32 ∷ []) ++ p.key_hash) ++ p.extensions
    ≡ 0 ∷ 0 ∷ 1 ∷ 160 ∷ 3 ∷ 2 ∷ 1 ∷ 2 ∷ (p.issuer ++ (p.validity_der ++ (p.subject ++ (algorithm
    ++ (4 ∷ 32 ∷ (p.key_hash ++ p.extensions))))))
pieces p algorithm = simp append_assoc

-- They are the byte before a leaf and the entry.
entry_is : (p : TbsParts) (algorithm : List ℕ) → algorithm ≡ optional itself p.algorithm
    → 0 ∷ 0 ∷ 1 ∷ 160 ∷ 3 ∷ 2 ∷ 1 ∷ 2 ∷ (p.issuer ++ (p.validity_der ++ (p.subject ++ (algorithm
    ++ (4 ∷ 32 ∷ (p.key_hash ++ p.extensions)))))) ≡ 0 ∷ tbs_text p
unfolding tbs_text
entry_is p algorithm is =
    ap (λ (bytes : List ℕ). 0 ∷ 0 ∷ 1 ∷ 160 ∷ 3 ∷ 2 ∷ 1 ∷ 2 ∷ (p.issuer ++ (p.validity_der
    ++ (p.subject ++ (bytes ++ (4 ∷ 32 ∷ (p.key_hash ++ p.extensions))))))) is

pub returns : goal.returns
returns g c =
    c.end.ensures _ (c.add-9.ensures _ (c.add-8.ensures _
    (c.add-7.ensures _ (c.add-6.ensures _
    (c.add-5.ensures _ (c.add-4.ensures _
    (c.add-3.ensures _ (c.add-2.ensures _ (c.add.ensures _ c.begin-running.ensures)))))))))
    ∙ ap g.H.TreeHash.hash (pieces (tbs_parts c.args.tbs.now) c.algorithm_bytes.result.now
    ∙ entry_is (tbs_parts c.args.tbs.now) c.algorithm_bytes.result.now c.algorithm_bytes.ensures)
