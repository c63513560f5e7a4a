-- From a Sign to the list of entries that underlies it.
use Rattle.std.proofs.Common.{◌≡◌, ℕ, ◌+◌, ◌<◌, ◌≤◌, Bool, true, List, length, get_or}
use Rattle.std.proofs.Common.{take, Ok, Err, sym, ap, subst, ◌∙◌, arith}
use Rattle.std.proofs.Common.{inl, inr}
use Rattle.std.specs.Prelude.{Result, IfOk, IsTrue, bytes_eq}
use Rattle.std.specs.List.{Contains}
use Rattle.std.proofs.lemmas.List.{length-take-le}
use Rattle.std.proofs.lemmas.Slice.Eq.{bytes_eq-Decides}
use Rattle.byte_formats.specs.Types.{Hash, HashFunction, Text}
use Rattle.tree_core.specs.Path.{part_of}
use Rattle.tree_core.specs.Tree.{tree_hash}
use Rattle.tree_proofs.specs.Consistency.{Checks}
use Rattle.tree_proofs.proofs.Fulls.{some_in}
use Rattle.tree_proofs.proofs.Parts.{part_of-take, part_of-zero}
use Rattle.tree_proofs.specs.declared.checkpoint.Checkpoint.{Checkpoint}
use Rattle.cosigner_core.specs.Progress.{first_progress}
use Rattle.cosigner_core.specs.declared.step.Step.{Step}
use Rattle.cosigner_core.specs.declared.step.Step.TheVariants.{Advance, Sign}
use Rattle.collide.specs.Extraction.{Extracts}
use Rattle.collide.specs.Inputs.{inputs_of, open_inputs_of}
use Rattle.collide.specs.declared.finding.Finding.{Finding}
use Rattle.collide.specs.declared.finding.Finding.TheVariants.{Pair, Same}
use Rattle.collide.proofs.Compared.{collision_widened}
use Rattle.cosigner_steps.specs.Steps.{AreSteps, HasPrefix, IsOfList, Shows}
use Rattle.cosigner_steps.specs.Steps.{prefix_inputs}
use Rattle.cosigner_steps.specs.Steps.{held_by_first, held_by, proof_inputs, held_sizes}
use Rattle.cosigner_steps.proofs.Holding.{advance_at, found_at, nothing_held, sign_checked}
use Rattle.cosigner_steps.proofs.Holding.{size_there}
use Rattle.cosigner_steps.proofs.Steps.{KeepsHeld, held_advance, held_same, inputs_at, prefix_at}
use Rattle.cosigner_steps.proofs.Steps.{size_at}

-- ---- steps

pub ok_still : {X E : Type 0} (P Q : X → Type 0) (r : Result X E) → ((x : X) → P x → Q x)
    → IfOk r P → IfOk r Q
ok_still P Q (Ok x) more p = more x p
ok_still P Q (Err e) more p = p

-- ---- tests

pub prefix_tested : (h : HashFunction) (es : List Text) (held : Checkpoint) (b : Bool)
    (root : Hash) → held.size ≤ length es → root ≡ tree_hash h (take held.size es)
    → b ≡ bytes_eq root held.root
    → (IsTrue b → HasPrefix h es held) × (HasPrefix h es held → IsTrue b)
prefix_tested h es held b root within is test = (
  λ yes. record {
    within = within;
    root = sym is ∙ (bytes_eq-Decides root held.root).0 (sym test ∙ yes);
  },
  λ prefix. test ∙ (bytes_eq-Decides root held.root).1 (is ∙ prefix.root),
)

pub list_tested : (h : HashFunction) (es : List Text) (step : Step) (index start end : ℕ)
    (hash : Hash) (proof : List Hash) (b : Bool) (root : Hash)
    → step ≡ Sign index start end hash proof
    → root ≡ tree_hash h (part_of es start end)
    → b ≡ bytes_eq root hash
    → (IsTrue b → IsOfList h es step) × (IsOfList h es step → IsTrue b)
list_tested h es step index start end hash proof b root sign is test =
    subst (λ (s : Step). (IsTrue b → IsOfList h es s)
    × (IsOfList h es s → IsTrue b)) (sym sign) (
      λ yes. sym is ∙ (bytes_eq-Decides root hash).0 (sym test ∙ yes),
      λ own. test ∙ (bytes_eq-Decides root hash).1 (is ∙ own),
    )

-- ---- at an Advance

pub advance_prefix : (h : HashFunction) (es : List Text) (steps : List Step) (k size : ℕ)
    (root : Hash) (proof : List Hash) → k < length steps
    → Advance size root proof ≡ get_or steps k (Advance size root proof)
    → HasPrefix h es (held_by_first h steps (k + 1))
    → HasPrefix h es (record { size = size; root = root })
advance_prefix h es steps k size root proof below is prefix =
    subst (HasPrefix h es) (held_advance h steps k size root proof below is) prefix

pub advance_within : (h : HashFunction) (es : List Text) (steps : List Step) (k size : ℕ)
    (root : Hash) (proof : List Hash) → k < length steps
    → Advance size root proof ≡ get_or steps k (Advance size root proof)
    → HasPrefix h es (held_by_first h steps (k + 1)) → size ≤ length es
advance_within h es steps k size root proof below is prefix =
    (advance_prefix h es steps k size root proof below is prefix).within

advance_long : (h : HashFunction) (es : List Text) (steps : List Step) (k size : ℕ)
    (root : Hash) (proof : List Hash) → k < length steps
    → Advance size root proof ≡ get_or steps k (Advance size root proof)
    → HasPrefix h es (held_by_first h steps (k + 1))
    → size ≡ length (take size es)
advance_long h es steps k size root proof below is prefix =
    sym (length-take-le size es (advance_within h es steps k size root proof below is prefix))

-- the proof of an Advance from what is held checks
pub record HasGrownFrom (h : HashFunction) (held : Checkpoint) (size : ℕ) (root : Hash)
    (proof : List Hash) : Type 0 where
  pub more : held.size < size
  pub checks : Checks h 0 held.size size held.root root proof

pub advance_grown : (h : HashFunction) (es : List Text) (steps : List Step) (k size : ℕ)
    (root : Hash) (proof : List Hash) → AreSteps h steps → k < length steps
    → Advance size root proof ≡ get_or steps k (Advance size root proof)
    → (HasPrefix h es (held_by_first h steps k) → ⊥)
    → HasGrownFrom h (held_by_first h steps k) size root proof
advance_grown h es steps k size root proof are below is apart =
    let known = advance_at h steps k size root proof are below is in
    record {
      more = known.more;
      checks = elim known.shown [
        | inl none ↦ absurd (apart (nothing_held h es steps k are none))
        | inr checks ↦ checks
      ];
    }

pub advance_ready : (h : HashFunction) (es : List Text) (steps : List Step) (k size : ℕ)
    (root : Hash) (proof given : List Hash) (before : Checkpoint) → AreSteps h steps
    → k < length steps → Advance size root proof ≡ get_or steps k (Advance size root proof)
    → (HasPrefix h es (held_by_first h steps k) → ⊥)
    → HasPrefix h es (held_by_first h steps (k + 1))
    → before ≡ held_by_first h steps k → given ≡ proof
    → Checks h 0 before.size (length (take size es)) before.root
    (tree_hash h (take size es)) given
advance_ready h es steps k size root proof given before are below is apart prefix held reported =
    let grown = advance_grown h es steps k size root proof are below is apart in
    let there = advance_prefix h es steps k size root proof below is prefix in
    let long = advance_long h es steps k size root proof below is prefix in
    let hash : root ≡ tree_hash h (take size es) = sym there.root in
    let one = subst (λ (n : ℕ). Checks h 0 (held_by_first h steps k).size n
    (held_by_first h steps k).root root proof) long grown.checks in
    let two =
    subst (λ (r : Hash). Checks h 0 (held_by_first h steps k).size (length (take size es))
    (held_by_first h steps k).root r proof) hash one in
    let three = subst (λ (p : List Hash). Checks h 0 (held_by_first h steps k).size
    (length (take size es)) (held_by_first h steps k).root (tree_hash h (take size es)) p)
    (sym reported) two in
    subst (λ (c : Checkpoint). Checks h 0 c.size (length (take size es)) c.root
    (tree_hash h (take size es)) given) (sym held) three

-- what was found of a list is found of the same one
pub found_of : (h : HashFunction) (items es : List Text) (start end : ℕ) (node : Hash)
    (proof : List Hash) (f : Finding) → items ≡ es
    → Extracts h (tree_hash h (part_of items start end) ≡ node) (inputs_of h items)
    (open_inputs_of h start end (length items) true node proof) f
    → Extracts h (tree_hash h (part_of es start end) ≡ node) (inputs_of h es)
    (open_inputs_of h start end (length es) true node proof) f
found_of h items es start end node proof f same found =
    subst (λ (xs : List Text). Extracts h (tree_hash h (part_of xs start end) ≡ node)
    (inputs_of h xs) (open_inputs_of h start end (length xs) true node proof) f) same found

pub advance_found : (h : HashFunction) (es : List Text) (steps : List Step) (k size : ℕ)
    (root : Hash) (proof given : List Hash) (before : Checkpoint) → AreSteps h steps
    → k < length steps → Advance size root proof ≡ get_or steps k (Advance size root proof)
    → (HasPrefix h es (held_by_first h steps k) → ⊥)
    → HasPrefix h es (held_by_first h steps (k + 1))
    → before ≡ held_by_first h steps k → given ≡ proof
    → (f : Finding)
    → Extracts h (tree_hash h (part_of (take size es) 0 before.size) ≡ before.root)
    (inputs_of h (take size es))
    (open_inputs_of h 0 before.size (length (take size es)) true before.root given) f
    → Shows h (prefix_inputs h es steps) (proof_inputs h steps) f
unfolding held_by
advance_found h es steps k size root proof given before are below is apart prefix held reported Same
    e =
    let grown = advance_grown h es steps k size root proof are below is apart in
    let there = advance_prefix h es steps k size root proof below is prefix in
    let shorter : before.size < size = subst (λ (c : Checkpoint). c.size < size) (sym held)
    grown.more in
    let long = there.within in
    let own : tree_hash h (take before.size es) ≡ before.root =
    ap (tree_hash h) (sym (part_of-take es 0 before.size size (omega arith) (omega arith)
    ∙ part_of-zero es before.size)) ∙ e in
    absurd (apart (subst (HasPrefix h es) held (record {
      within = omega arith;
      root = own;
    })))
advance_found h es steps k size root proof given before are below is apart prefix held reported
    (Pair x y) e =
    let long = advance_long h es steps k size root proof below is prefix in
    let size_in = size_at steps k size root proof below is in
    let now_held = (held_by_first h steps k) in
    collision_widened h (inputs_of h (take size es))
    (open_inputs_of h 0 before.size (length (take size es)) true before.root given)
    (prefix_inputs h es steps) (proof_inputs h steps) x y
    (λ (c : Contains (inputs_of h (take size es)) x).
    prefix_at h es (held_sizes steps) size x size_in.0 size_in.1 size_in.2 c)
    (λ (c : Contains (open_inputs_of h 0 before.size (length (take size es)) true before.root
    given) y).
    let one = subst (λ (n : ℕ). Contains (open_inputs_of h 0 before.size n true before.root given)
    y) (sym long) c in
    let two = subst (λ (p : List Hash). Contains (open_inputs_of h 0 before.size size true
    before.root p) y) reported one in
    let three = subst (λ (b : Checkpoint). Contains (open_inputs_of h 0 b.size size true b.root
    proof) y) held two in
    inputs_at h (first_progress h) steps k (Advance size root proof) y below is three) e.1

-- after any other step the list begins with what it began with before
pub not_same : (h : HashFunction) (es : List Text) (steps : List Step) (k : ℕ) (s : Step)
    → KeepsHeld s → k < length steps → s ≡ get_or steps k s
    → (HasPrefix h es (held_by_first h steps k) → ⊥)
    → HasPrefix h es (held_by_first h steps (k + 1)) → ⊥
not_same h es steps k s keeps below is apart prefix =
    apart (subst (HasPrefix h es) (held_same h steps k s keeps below is) prefix)

-- ---- at a Sign

pub sign_ready : (h : HashFunction) (es : List Text) (steps : List Step)
    (k index start end : ℕ) (hash : Hash) (proof given : List Hash) (held : Checkpoint)
    → AreSteps h steps → k < length steps
    → Sign index start end hash proof ≡ get_or steps k (Sign index start end hash proof)
    → HasPrefix h es (held_by_first h steps k)
    → held ≡ held_by_first h steps k → given ≡ proof
    → Checks h start end (length (take held.size es)) hash
    (tree_hash h (take held.size es)) given
sign_ready h es steps k index start end hash proof given held are below is prefix same reported =
    let checks = sign_checked h steps k index start end hash proof are below is in
    let own : HasPrefix h es held = subst (HasPrefix h es) (sym same) prefix in
    let here : Checks h start end held.size hash held.root proof =
    subst (λ (c : Checkpoint). Checks h start end c.size hash c.root proof) (sym same) checks in
    let within = own.within in
    let long : held.size ≡ length (take held.size es) = sym (length-take-le held.size es within) in
    let root : held.root ≡ tree_hash h (take held.size es) = sym own.root in
    let one = subst (λ (n : ℕ). Checks h start end n hash held.root proof) long here in
    let two = subst (λ (r : Hash). Checks h start end (length (take held.size es)) hash r proof)
    root one in
    subst (λ (p : List Hash). Checks h start end (length (take held.size es)) hash
    (tree_hash h (take held.size es)) p) (sym reported) two

pub sign_found : (h : HashFunction) (es : List Text) (steps : List Step) (step : Step)
    (k index start end : ℕ) (hash : Hash) (proof given : List Hash) (held : Checkpoint)
    → AreSteps h steps → k < length steps → step ≡ get_or steps k step
    → step ≡ Sign index start end hash proof
    → HasPrefix h es (held_by_first h steps k)
    → held ≡ held_by_first h steps k → given ≡ proof
    → (f : Finding)
    → Extracts h (tree_hash h (part_of (take held.size es) start end) ≡ hash)
    (inputs_of h (take held.size es))
    (open_inputs_of h start end (length (take held.size es)) true hash given) f
    → Extracts h (IsOfList h es step) (prefix_inputs h es steps)
    (proof_inputs h steps) f
unfolding held_by
sign_found h es steps step k index start end hash proof given held are below at is prefix same
    reported
    f e =
    let here = found_at steps k step (Sign index start end hash proof) at is in
    let checks = sign_checked h steps k index start end hash proof are below here in
    let some = some_in start end checks.valid in
    let within = checks.within in
    let size : held.size ≡ (held_by_first h steps k).size = ap (λ (c : Checkpoint). c.size) same in
    let part = part_of-take es start end held.size (omega arith) (omega arith) in
    let root = ap (tree_hash h) part in
    let there = size_there h steps k start end some within in
    let own = prefix.within in
    let count : held.size ≤ length es = omega arith in
    let long : held.size ≡ length (take held.size es) = sym (length-take-le held.size es count) in
    subst (λ (s : Step). Extracts h (IsOfList h es s) (prefix_inputs h es steps)
    (proof_inputs h steps) f) (sym is) (go f e root there long here)
  where
    go : (f : Finding)
        → Extracts h (tree_hash h (part_of (take held.size es) start end) ≡ hash)
        (inputs_of h (take held.size es))
        (open_inputs_of h start end (length (take held.size es)) true hash given) f
        → tree_hash h (part_of (take held.size es) start end)
        ≡ tree_hash h (part_of es start end)
        → Contains (held_sizes steps) (held_by_first h steps k).size
        → held.size ≡ length (take held.size es)
        → Sign index start end hash proof ≡ get_or steps k (Sign index start end hash proof)
        → Extracts h (tree_hash h (part_of es start end) ≡ hash)
        (prefix_inputs h es steps) (proof_inputs h steps) f
    go Same e root there long here = sym root ∙ e
    go (Pair x y) e root there long here = (
      λ (own : tree_hash h (part_of es start end) ≡ hash). e.0 (root ∙ own),
      collision_widened h (inputs_of h (take held.size es))
          (open_inputs_of h start end (length (take held.size es)) true hash given)
          (prefix_inputs h es steps) (proof_inputs h steps) x y
          (λ (c : Contains (inputs_of h (take held.size es)) x).
          let two = subst (λ (b : Checkpoint). Contains (inputs_of h (take b.size es)) x)
          same
          c in
          prefix_at h es (held_sizes steps) (held_by_first h steps k).size x there.0 there.1
          there.2
          two)
          (λ (c : Contains (open_inputs_of h start end (length (take held.size es)) true hash given)
          y).
          let one = subst (λ (n : ℕ). Contains (open_inputs_of h start end n true hash given) y)
          (sym long) c in
          let two = subst (λ (p : List Hash). Contains (open_inputs_of h start end held.size true
          hash p) y) reported one in
          let three = subst (λ (b : Checkpoint). Contains (open_inputs_of h start end b.size true
          hash proof) y) same two in
          inputs_at h (first_progress h) steps k (Sign index start end hash proof) y below here
          three) e.1,
    )

pub shows_extracts : (h : HashFunction) (same : Type 0) (xs ys : List Text) (f : Finding)
    → (same → ⊥) → Shows h xs ys f → Extracts h same xs ys f
shows_extracts h same xs ys Same apart found = absurd found
shows_extracts h same xs ys (Pair x y) apart found = (apart, found)
