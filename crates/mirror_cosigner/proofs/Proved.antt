-- What a mirror asks of a cosigner is proved by its own entries.
use Rattle.std.proofs.Common.{◌≡◌, ℕ, ◌<◌, ◌≤◌, ◌==◌, ◌∙◌, Bool, true, false, not, List, []}
use Rattle.std.proofs.Common.{Option, Some, None, option_map, take, length, refl, sym, ap, subst}
use Rattle.std.proofs.Common.{inl, inr, arith, nat_lt, eqb-true}
use Rattle.std.specs.Prelude.{if◌then◌else◌, nat_le, ◌||◌, ◌&&◌, bytes_eq}
use Rattle.std.proofs.lemmas.Bool.{and_parts, cond-false, cond-true, leb-true, lt-leb, ltb-false}
use Rattle.std.proofs.lemmas.Bool.{le-leb, leb-false}
use Rattle.std.proofs.lemmas.List.{length-take-le, length-map}
use Rattle.std.proofs.lemmas.Slice.Eq.{bytes_eq-Decides}
use Rattle.byte_formats.specs.Types.{Hash, HashFunction, Text}
use Rattle.byte_formats.proofs.Values.{not_zero}
use Rattle.tree_core.specs.Laws.{IsSubtree}
use Rattle.tree_core.specs.Path.{part_of}
use Rattle.tree_core.specs.Subtree.{is_subtree}
use Rattle.tree_core.specs.Tree.{tree_hash}
use Rattle.tree_core.proofs.Subtrees.{is_subtree_iff}
use Rattle.tree_proofs.specs.Checkpoints.{has_subtree, is_prefix_of}
use Rattle.tree_proofs.specs.Consistency.{Checks}
use Rattle.tree_proofs.specs.Proof.{consistency_proof}
use Rattle.tree_proofs.specs.declared.checkpoint.Checkpoint.{Checkpoint}
use Rattle.tree_proofs.proofs.Aligned.{first_valid}
use Rattle.tree_proofs.proofs.Checked.{ProofsCheck_always}
use Rattle.tree_proofs.proofs.Checkpoints.{CheckpointsAreShown_always}
use Rattle.tree_proofs.proofs.Parts.{part_of-take, part_of-zero}
use Rattle.cosigner_core.specs.Folds.{CosignerState}
use Rattle.cosigner_core.specs.Refusals.{advance_refusal, earlier}
use Rattle.cosigner_core.specs.Refusals.{subtree_refusal}
use Rattle.cosigner_core.specs.declared.error.CosignError.{CosignError}
use Rattle.cosigner_core.specs.declared.error.CosignError.TheVariants as cosign_error
use Rattle.journal_core.specs.declared.error.AppendError.TheVariants as append_error
use Rattle.mirror_core.specs.Folds.{MirrorState, entries_in_mirror}
use Rattle.mirror_cosigner.specs.Refusals.{advance_refusal_at, cosign_refusal_at, is_mine}
use Rattle.mirror_cosigner.specs.Refusals.{mirror_advance_refusal, mirror_cosign_refusal}
use Rattle.mirror_cosigner.specs.Requests.{growth_proof, own_root}
use Rattle.mirror_cosigner.specs.declared.error.MirrorStepError.TheVariants.{BadSubtree, Beyond}
use Rattle.mirror_cosigner.specs.declared.error.MirrorStepError.TheVariants.{Cosign, NotMine}

-- ---- the proofs check

-- What is held is of the first items.
pub record HoldsOwn (h : HashFunction) (s : MirrorState) (held : Checkpoint) : Type 0 where
  pub within : held.size ≤ length (entries_in_mirror s)
  pub root : own_root h s held ≡ held.root

pub mine_is : (h : HashFunction) (s : MirrorState) (held : Checkpoint)
    → is_mine (length s.items) (own_root h s held) held ≡ true → HoldsOwn h s held
mine_is h s held is =
    let both = and_parts (nat_le held.size (length s.items))
    (bytes_eq (own_root h s held) held.root)
    is in
    let few = leb-true held.size (length s.items) both.0 in
    let count = length-map s.items (λ item. item.0) in
    record {
      within = omega (arith, few, count);
      root = (bytes_eq-Decides (own_root h s held) held.root).0 both.1;
    }

pub is_mine_where : (h : HashFunction) (s : MirrorState) (held : Checkpoint)
    → held.size ≤ length (entries_in_mirror s) → own_root h s held ≡ held.root
    → is_mine (length s.items) (own_root h s held) held ≡ true
is_mine_where h s held few root =
    let count = length-map s.items (λ item. item.0) in
    ap (λ (b : Bool). b && bytes_eq (own_root h s held) held.root)
    (le-leb held.size (length s.items) (omega (arith, count, few)))
    ∙ (bytes_eq-Decides (own_root h s held) held.root).1 root

module _ (h : HashFunction) (s : MirrorState) (held : Checkpoint) (mine : HoldsOwn h s held) where
  pub part_checks : (start end : ℕ) → is_subtree start end ≡ true → end ≤ held.size
      → Checks h start end held.size (tree_hash h (part_of (entries_in_mirror s) start end))
      held.root (consistency_proof h start end true (take held.size (entries_in_mirror s)))
  part_checks start end valid inside =
      let entries = entries_in_mirror s in
      let words : IsSubtree start end = (is_subtree_iff start end).0 valid in
      let order = words.inhabited in
      let count : length (take held.size entries) ≡ held.size =
      length-take-le held.size entries mine.within in
      let checks = ProofsCheck_always h (take held.size entries) start end words
      (omega (arith, count, inside)) in
      let proof = consistency_proof h start end true (take held.size entries) in
      let part : part_of (take held.size entries) start end ≡ part_of entries start end =
      part_of-take entries start end held.size (omega arith) inside in
      subst (λ (r : Hash). Checks h start end held.size (tree_hash h (part_of entries start end)) r
      proof) mine.root
      (subst (λ (p : List Text). Checks h start end held.size (tree_hash h p)
      (tree_hash h (take held.size entries)) proof) part
      (subst (λ (n : ℕ). Checks h start end n
      (tree_hash h (part_of (take held.size entries) start end))
      (tree_hash h (take held.size entries)) proof) count checks))

  pub prefix_checks : (size : ℕ) → size ≤ length (entries_in_mirror s) → 0 < held.size
      → held.size < size
      → Checks h 0 held.size size held.root (tree_hash h (take size (entries_in_mirror s)))
      (consistency_proof h 0 held.size true (take size (entries_in_mirror s)))
  prefix_checks size few some more =
      let entries = entries_in_mirror s in
      let words : IsSubtree 0 held.size =
      (is_subtree_iff 0 held.size).0 (first_valid held.size some)
      in
      let count : length (take size entries) ≡ size = length-take-le size entries few in
      let checks = ProofsCheck_always h (take size entries) 0 held.size words
      (omega (arith, count, more)) in
      let proof = consistency_proof h 0 held.size true (take size entries) in
      let part : tree_hash h (part_of (take size entries) 0 held.size) ≡ held.root =
      ap (tree_hash h) (part_of-take entries 0 held.size size (omega arith) (omega arith)
      ∙ part_of-zero entries held.size) ∙ mine.root in
      subst (λ (r : Hash). Checks h 0 held.size size r (tree_hash h (take size entries)) proof) part
      (subst (λ (n : ℕ). Checks h 0 held.size n
      (tree_hash h (part_of (take size entries) 0 held.size))
      (tree_hash h (take size entries)) proof) count checks)

  pub prefix_shown : (size : ℕ) → size ≤ length (entries_in_mirror s) → held.size < size
      → is_prefix_of h held size (tree_hash h (take size (entries_in_mirror s)))
      (growth_proof h (entries_in_mirror s) held.size size) ≡ true
  prefix_shown size few more = by_none (held.size == 0) refl
    where
      shown : (proof : List Hash) → growth_proof h (entries_in_mirror s) held.size size ≡ proof
          → is_prefix_of h held size (tree_hash h (take size (entries_in_mirror s))) proof ≡ true
          → is_prefix_of h held size (tree_hash h (take size (entries_in_mirror s)))
          (growth_proof h (entries_in_mirror s) held.size size) ≡ true
      shown proof is by = subst (λ (p : List Hash). is_prefix_of h held size
          (tree_hash h (take size (entries_in_mirror s))) p ≡ true) (sym is) by

      by_none : (b : Bool) → (held.size == 0) ≡ b
          → is_prefix_of h held size (tree_hash h (take size (entries_in_mirror s)))
          (growth_proof h (entries_in_mirror s) held.size size) ≡ true
      by_none true tests =
          let none = eqb-true held.size 0 tests in
          shown [] (cond-true _ _ _ (ap (λ (c : Bool). c || nat_le size held.size) tests))
          (((CheckpointsAreShown_always h).prefix held size _ []).1 (inl (none, refl)))
      by_none false tests =
          let some = not_zero held.size tests in
          let proof = consistency_proof h 0 held.size true (take size (entries_in_mirror s)) in
          shown proof (cond-false _ _ _ (ap (λ (c : Bool). c || nat_le size held.size) tests
          ∙ lt-leb size held.size more))
          (((CheckpointsAreShown_always h).prefix held size _ proof).1
          (inr (some, prefix_checks size few some more)))

  pub part_shown : (start end : ℕ) → is_subtree start end ≡ true → end ≤ held.size
      → has_subtree h held start end (tree_hash h (part_of (entries_in_mirror s) start end))
      (consistency_proof h start end true (take held.size (entries_in_mirror s))) ≡ true
  part_shown start end valid inside =
      ((CheckpointsAreShown_always h).subtree held start end _ _).1
      (part_checks start end valid inside)

-- ---- so the cosigner never answers BadProof

mapped : (o : Option CosignError) (e : CosignError) → option_map Cosign o ≡ Some (Cosign e)
    → o ≡ Some e
mapped None e is = cc
mapped (Some d) e is = let same : d ≡ e = cc in ap Some same

growth_cases : (a b : Bool) (n : ℕ) (x y : Hash) (o : Option CosignError) (e : CosignError)
    → (a ≡ false → b ≡ true → o ≡ Some e → ⊥)
    → earlier (if a then Some (Beyond n) else (if not b then Some (NotMine x y) else None))
    (option_map Cosign o) ≡ Some (Cosign e) → ⊥
growth_cases true b n x y o e never is = cc
growth_cases false false n x y o e never is = cc
growth_cases false true n x y o e never is = never refl refl (mapped o e is)

advance_cases : (a b c d f : Bool) (n : ℕ) → (b ≡ false → c ≡ true)
    → earlier (if not a then Some cosign_error.WrongLog
    else (if b then Some (cosign_error.NotNewer n)
    else (if not c then Some cosign_error.BadProof else None)))
    (if d then Some (cosign_error.Append append_error.Broken)
    else (if f then Some (cosign_error.Append append_error.Full) else None))
    ≡ Some cosign_error.BadProof → ⊥
advance_cases false b c d f n shown is = cc
advance_cases true true c d f n shown is = cc
advance_cases true false false d f n shown is = let no : false ≡ true = shown refl in cc
advance_cases true false true true f n shown is = cc
advance_cases true false true false true n shown is = cc
advance_cases true false true false false n shown is = cc

pub never_bad_advance : (h : HashFunction) (s : MirrorState) (signer : CosignerState)
    (broken : Bool) (end size : ℕ)
    → mirror_advance_refusal h s signer broken end size ≡ Some (Cosign cosign_error.BadProof) → ⊥
unfolding advance_refusal_at advance_refusal
never_bad_advance h s signer broken end size is =
    growth_cases (nat_lt (length s.items) size)
    (is_mine (length s.items) (own_root h s signer.held) signer.held) (length s.items)
    signer.held.root (own_root h s signer.held) _ cosign_error.BadProof
    (λ few mine refused. advance_cases _ (nat_le size signer.held.size) _ broken _ signer.held.size
    (λ newer. prefix_shown h s signer.held (mine_is h s signer.held mine) size
    (let count = length-map s.items (λ item. item.0) in
    let within = ltb-false (length s.items) size few in omega (arith, count, within))
    (leb-false size signer.held.size newer)) refused) is

signing_cases : (a b c : Bool) (n : ℕ) (x y : Hash) (o : Option CosignError) (e : CosignError)
    → (a ≡ true → b ≡ true → c ≡ false → o ≡ Some e → ⊥)
    → earlier (earlier (if not a then Some (NotMine x y) else None)
    (if not b then Some BadSubtree else (if c then Some (Beyond n) else None)))
    (option_map Cosign o) ≡ Some (Cosign e) → ⊥
signing_cases false b c n x y o e never is = cc
signing_cases true false c n x y o e never is = cc
signing_cases true true true n x y o e never is = cc
signing_cases true true false n x y o e never is = never refl refl refl (mapped o e is)

cosign_cases : (a b c d f k l p : Bool) (n : ℕ) → d ≡ true
    → earlier (if not a then Some cosign_error.WrongLog
    else (if not b then Some cosign_error.BadSubtree
    else (if c then Some (cosign_error.Beyond n)
    else (if not d then Some cosign_error.BadProof
    else (if not f then Some (if p then cosign_error.NeedsChild else cosign_error.Exhausted)
    else None)))))
    (if k then Some (cosign_error.Append append_error.Broken)
    else (if l then Some (cosign_error.Append append_error.Full) else None))
    ≡ Some cosign_error.BadProof → ⊥
cosign_cases false b c d f k l p n shown is = cc
cosign_cases true false c d f k l p n shown is = cc
cosign_cases true true true d f k l p n shown is = cc
cosign_cases true true false false f k l p n shown is = cc
cosign_cases true true false true false k l true n shown is = cc
cosign_cases true true false true false k l false n shown is = cc
cosign_cases true true false true true true l p n shown is = cc
cosign_cases true true false true true false true p n shown is = cc
cosign_cases true true false true true false false p n shown is = cc

pub never_bad_cosign : (h : HashFunction) (s : MirrorState) (signer : CosignerState)
    (broken : Bool) (end start stop : ℕ)
    → mirror_cosign_refusal h s signer broken end start stop
    ≡ Some (Cosign cosign_error.BadProof) → ⊥
unfolding cosign_refusal_at subtree_refusal
never_bad_cosign h s signer broken end start stop is =
    signing_cases (is_mine (length s.items) (own_root h s signer.held) signer.held)
    (is_subtree start stop) (nat_lt signer.held.size stop) signer.held.size signer.held.root
    (own_root h s signer.held) _ cosign_error.BadProof
    (λ mine valid inside refused. cosign_cases _ _ _ _ _ broken _ _ signer.held.size
    (part_shown h s signer.held (mine_is h s signer.held mine) start stop valid
    (ltb-false signer.held.size stop inside)) refused) is
