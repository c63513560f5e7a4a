-- What a proof shows of a checkpoint.
use Rattle.std.proofs.Common.{◌≡◌, ℕ, true, List, length, refl, ap, ◌∙◌, eqb, eqb-true, inl, inr}
use Rattle.std.proofs.Common.{arith}
use Rattle.std.specs.Prelude.{Result, Ok, Err, is_ok}
use Rattle.std.proofs.lemmas.Bool.{cond-false, cond-true, eq-eqb, ne_eqb}
use Rattle.std.proofs.lemmas.List.{nil_from_length}
use Rattle.byte_formats.specs.Types.{Hash, HashFunction}
use Rattle.byte_formats.proofs.Steps.{chosen}
use Rattle.byte_formats.proofs.Values.{not_zero}
use Rattle.tree_proofs.specs.declared.checkpoint.Checkpoint.{Checkpoint}
use Rattle.tree_proofs.specs.Checkpoints.{has_subtree, is_prefix_of}
use Rattle.tree_proofs.specs.Consistency.{Checks, consistency}
use Rattle.tree_proofs.specs.ProofLaws.{CheckpointsAreShown, IsShownPrefix}
use Rattle.tree_proofs.proofs.Checked.{PassesWhereChecks_always}

ok_is_unit : {E : Type 0} (r : Result (Unit {0}) E) → is_ok r ≡ true → r ≡ Ok tt
ok_is_unit (Ok x) e = refl
ok_is_unit (Err d) e = absurd cc

subtree_shown : (h : HashFunction) (held : Checkpoint) (start end : ℕ) (hash : Hash)
    (proof : List Hash)
    → (has_subtree h held start end hash proof ≡ true
    → Checks h start end held.size hash held.root proof)
    × (Checks h start end held.size hash held.root proof
    → has_subtree h held start end hash proof ≡ true)
subtree_shown h held start end hash proof =
    let passes = PassesWhereChecks_always h start end held.size hash held.root proof in
    (λ e. passes.0 (ok_is_unit _ e), λ checks. ap is_ok (passes.1 checks))

prefix_shown : (h : HashFunction) (held : Checkpoint) (size : ℕ) (root : Hash) (proof : List Hash)
    → is_prefix_of h held size root proof ≡ true → IsShownPrefix h held size root proof
prefix_shown h held size root proof e =
    elim (chosen (eqb held.size 0) (eqb (length proof) 0)
    (is_ok (consistency h 0 held.size size held.root root proof)) true e) [
      | inl c ↦
          inl (eqb-true held.size 0 c.0, nil_from_length proof (eqb-true (length proof) 0 c.1))
      | inr c ↦
          let passes = PassesWhereChecks_always h 0 held.size size held.root root proof in
          inr (not_zero held.size c.0, passes.0 (ok_is_unit _ c.1))
    ]

prefix_tests : (h : HashFunction) (held : Checkpoint) (size : ℕ) (root : Hash) (proof : List Hash)
    → IsShownPrefix h held size root proof → is_prefix_of h held size root proof ≡ true
prefix_tests h held size root proof (inl none) =
    cond-true _ _ _ (eq-eqb held.size 0 none.0)
    ∙ eq-eqb (length proof) 0 (ap length none.1)
prefix_tests h held size root proof (inr some) =
    let passes = PassesWhereChecks_always h 0 held.size size held.root root proof in
    cond-false _ _ _ (ne_eqb held.size 0 (λ none. let more = some.0 in omega arith))
    ∙ ap is_ok (passes.1 some.1)

pub CheckpointsAreShown_always : (h : HashFunction) → CheckpointsAreShown h
CheckpointsAreShown_always h = record {
  prefix = λ held size root proof. (
    prefix_shown h held size root proof,
    prefix_tests h held size root proof,
  );
  subtree = subtree_shown h;
}
