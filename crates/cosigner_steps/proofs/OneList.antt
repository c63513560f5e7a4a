-- One list and a cosigner: if the list begins with what is held at last, each Sign is of the list,
-- or there are two strings with one hash.
use Rattle.std.proofs.Common.{◌≡◌, ◌⊎◌, ⊎_elim, inl, inr, ℕ, zero, suc, ◌+◌, ◌-◌, ◌<◌, ◌≤◌, true}
use Rattle.std.proofs.Common.{List, [], ◌∷◌, length, get_or, take, refl, sym, ap, subst, ◌∙◌, arith}
use Rattle.std.specs.List.{AllByRecursion, Contains}
use Rattle.std.proofs.Math.Seq.{take-length}
use Rattle.std.proofs.lemmas.List.{get_or_default, length-take-le}
use Rattle.byte_formats.specs.Types.{Hash, HashFunction, Text}
use Rattle.tree_core.specs.Path.{part_of}
use Rattle.tree_core.specs.Tree.{tree_hash}
use Rattle.tree_proofs.specs.Consistency.{Checks}
use Rattle.tree_proofs.proofs.Fulls.{some_in}
use Rattle.tree_proofs.proofs.Parts.{part_of-take, part_of-zero}
use Rattle.tree_proofs.specs.declared.checkpoint.Checkpoint.{Checkpoint}
use Rattle.cosigner_core.specs.Progress.{first_progress}
use Rattle.cosigner_core.specs.declared.step.Step.{Step}
use Rattle.cosigner_core.specs.declared.step.Step.TheVariants.{Advance, Child, Sign}
use Rattle.collide.specs.Extraction.{HasCollision}
use Rattle.collide.specs.Inputs.{inputs_of, open_inputs_of}
use Rattle.collide.proofs.Compared.{collision_widened}
use Rattle.collide.proofs.Extracting.{IsSized, ProofsExtract_always}
use Rattle.cosigner_steps.specs.Laws.{HasHashes, OneListAfter}
use Rattle.cosigner_steps.specs.Steps.{AreSteps, HasPrefix, IsOfList, held_by_first, held_by}
use Rattle.cosigner_steps.specs.Steps.{held_sizes, prefix_inputs, proof_inputs, step_inputs}
use Rattle.cosigner_steps.proofs.Steps.{held_advance, held_same, held_sign, inputs_at, prefix_at}
use Rattle.cosigner_steps.proofs.Steps.{size_at}
use Rattle.cosigner_steps.proofs.Holding.{advance_at, nothing_held, sign_checked, size_there}

-- this holds, or the list and the proofs of these steps show two strings with one hash
abbrev Shown : HashFunction → List Text → List Step → Type 0 → Type 0
Shown h entries steps so =
    so ⊎ HasCollision h (prefix_inputs h entries steps) (proof_inputs h steps)

pub hashes_at : (steps : List Step) (k : ℕ) (s : Step) → AllByRecursion HasHashes steps
    → k < length steps → s ≡ get_or steps k s → HasHashes s
hashes_at [] k s all below is = absurd (omega arith)
hashes_at (x ∷ xs) zero s all below is = subst HasHashes (sym is) all.0
hashes_at (x ∷ xs) (suc k) s all below is = hashes_at xs k s all.1 (omega arith) is

-- A proof that checks for a prefix of the list gives the list's own hash, or there are two strings.
prefix_extracts : (h : HashFunction) → IsSized h → (entries : List Text) (prefix : Checkpoint)
    (start end : ℕ) (node : Hash) (proof : List Hash) → HasPrefix h entries prefix
    → AllByRecursion (λ hash. length hash ≡ 32) proof
    → Checks h start end prefix.size node prefix.root proof
    → (tree_hash h (part_of entries start end) ≡ node)
    ⊎ HasCollision h (inputs_of h (take prefix.size entries))
    (open_inputs_of h start end prefix.size true node proof)
prefix_extracts h sized entries prefix start end node proof own hashes checks =
    let xs : List Text = take prefix.size entries in
    let within = own.within in
    let long : prefix.size ≡ length xs = sym (length-take-le prefix.size entries within) in
    let some = some_in start end checks.valid in
    let last = checks.within in
    let part : part_of xs start end ≡ part_of entries start end =
    part_of-take entries start end prefix.size (omega arith) last in
    let here : Checks h start end (length xs) node (tree_hash h xs) proof =
    subst (λ (n : ℕ). Checks h start end n node (tree_hash h xs) proof) long
    (subst (λ (r : Hash). Checks h start end prefix.size node r proof) (sym own.root) checks) in
    ⊎_elim
    (λ (e : tree_hash h (part_of xs start end) ≡ node). inl (ap (tree_hash h) (sym part) ∙ e))
    (λ (found : HasCollision h (inputs_of h xs)
    (open_inputs_of h start end (length xs) true node proof)).
    inr (subst (λ (n : ℕ). HasCollision h (inputs_of h xs)
    (open_inputs_of h start end n true node proof)) (sym long) found))
    (ProofsExtract_always h sized xs start end node proof hashes here)

-- What is found of a prefix that was held, and of the proof of a step.
found_in : (h : HashFunction) (entries : List Text) (steps : List Step) (k size : ℕ) (s : Step)
    → k < length steps → s ≡ get_or steps k s → Contains (held_sizes steps) size
    → HasCollision h (inputs_of h (take size entries)) (step_inputs h (held_by_first h steps k) s)
    → HasCollision h (prefix_inputs h entries steps) (proof_inputs h steps)
unfolding held_by
found_in h entries steps k size s below is there found = (
  found.0,
  (
    found.1.0,
    collision_widened h (inputs_of h (take size entries))
        (step_inputs h (held_by_first h steps k) s) (prefix_inputs h entries steps)
        (proof_inputs h steps) found.0 found.1.0
        (λ (c : Contains (inputs_of h (take size entries)) found.0).
        prefix_at h entries (held_sizes steps) size found.0 there.0 there.1 there.2 c)
        (λ (c : Contains (step_inputs h (held_by_first h steps k) s) found.1.0).
        inputs_at h (first_progress h) steps k s found.1.0 below is c)
        found.1.1,
  ),
)

-- ---- from one step back

step_back : (h : HashFunction) → IsSized h → (entries : List Text) (steps : List Step) (k : ℕ)
    (s : Step) → AreSteps h steps → HasHashes s → k < length steps → s ≡ get_or steps k s
    → HasPrefix h entries (held_by_first h steps (k + 1))
    → Shown h entries steps (HasPrefix h entries (held_by_first h steps k))
step_back h sized entries steps k (Sign index start end hash proof) are hashes below is prefix =
    inl (subst (HasPrefix h entries)
    (held_sign h steps k index start end hash proof below is) prefix)
step_back h sized entries steps k (Child child low) are hashes below is prefix =
    inl (subst (HasPrefix h entries)
    (held_same h steps k (Child child low) (λ p. refl) below is) prefix)
step_back h sized entries steps k (Advance size root proof) are hashes below is prefix =
    let held = held_by_first h steps k in
    let own : HasPrefix h entries (record { size = size; root = root }) =
    subst (HasPrefix h entries) (held_advance h steps k size root proof below is) prefix in
    let known = advance_at h steps k size root proof are below is in
    let more = known.more in
    let long = own.within in
    let within : held.size ≤ length entries = omega arith in
    ⊎_elim
    (λ (none : held.size ≡ 0). inl (nothing_held h entries steps k are none))
    (λ (checks : Checks h 0 held.size size held.root root proof).
    ⊎_elim
    (λ (e : tree_hash h (part_of entries 0 held.size) ≡ held.root).
    inl (record {
      within = within;
      root = ap (tree_hash h) (sym (part_of-zero entries held.size)) ∙ e;
    }))
    (λ (found : HasCollision h (inputs_of h (take size entries))
    (open_inputs_of h 0 held.size size true held.root proof)).
    inr (found_in h entries steps k size (Advance size root proof) below is
    (size_at steps k size root proof below is) found))
    (prefix_extracts h sized entries (record { size = size; root = root }) 0 held.size held.root
    proof own hashes checks))
    known.shown

-- ---- from the last step back

some_step : Step
some_step = Advance 0 [] []

walk_back : (left : ℕ) (h : HashFunction) → IsSized h → (entries : List Text) (steps : List Step)
    (k : ℕ) → k + left ≡ length steps → AreSteps h steps → AllByRecursion HasHashes steps
    → HasPrefix h entries (held_by h steps)
    → Shown h entries steps (HasPrefix h entries (held_by_first h steps k))
walk_back zero h sized entries steps k all are hashes prefix =
    let whole : length steps ≡ k = omega arith in
    let here : held_by_first h steps k ≡ held_by h steps =
    ap (λ (n : ℕ). held_by_first h steps n) (sym whole) ∙ ap (held_by h) (take-length steps) in
    inl (subst (HasPrefix h entries) (sym here) prefix)
walk_back (suc left) h sized entries steps k all are hashes prefix =
    let s : Step = get_or steps k some_step in
    let below : k < length steps = omega arith in
    let is : s ≡ get_or steps k s = get_or_default steps k some_step s below in
    ⊎_elim
    (λ (following : HasPrefix h entries (held_by_first h steps (k + 1))).
    step_back h sized entries steps k s are (hashes_at steps k s hashes below is) below is
    following)
    (λ (found : HasCollision h (prefix_inputs h entries steps) (proof_inputs h steps)). inr found)
    (walk_back left h sized entries steps (k + 1) (omega arith) are hashes prefix)

-- ---- a Sign

sign_shown : (h : HashFunction) → IsSized h → (entries : List Text) (steps : List Step) (k : ℕ)
    (s : Step) → AreSteps h steps → HasHashes s → k < length steps → s ≡ get_or steps k s
    → HasPrefix h entries (held_by_first h steps k) → Shown h entries steps (IsOfList h entries s)
sign_shown h sized entries steps k (Advance size root proof) are hashes below is prefix = inl tt
sign_shown h sized entries steps k (Child child low) are hashes below is prefix = inl tt
sign_shown h sized entries steps k (Sign index start end hash proof) are hashes below is prefix =
    let held = held_by_first h steps k in
    let checks = sign_checked h steps k index start end hash proof are below is in
    let some = some_in start end checks.valid in
    ⊎_elim
    (λ (e : tree_hash h (part_of entries start end) ≡ hash). inl e)
    (λ (found : HasCollision h (inputs_of h (take held.size entries))
    (open_inputs_of h start end held.size true hash proof)).
    inr (found_in h entries steps k held.size (Sign index start end hash proof) below is
    (size_there h steps k start end some checks.within) found))
    (prefix_extracts h sized entries held start end hash proof prefix hashes checks)

pub OneListAfter_always : (h : HashFunction) → IsSized h → OneListAfter h
OneListAfter_always h sized entries steps step are hashes prefix there =
    let k = there.0 in
    let below : k < length steps = there.1 in
    let is : step ≡ get_or steps k step = sym there.2 in
    ⊎_elim
    (λ (own : HasPrefix h entries (held_by_first h steps k)).
    sign_shown h sized entries steps k step are (hashes_at steps k step hashes below is) below is
    own)
    (λ (found : HasCollision h (prefix_inputs h entries steps) (proof_inputs h steps)). inr found)
    (walk_back (length steps - k) h sized entries steps k (omega arith) are hashes prefix)
