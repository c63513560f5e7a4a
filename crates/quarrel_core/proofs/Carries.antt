-- The proof of a signed subtree, carried from step to step.
use Rattle.std.proofs.Common.{◌≡◌, ⊎_elim, ℕ, ◌+◌, ◌<◌, ◌≤◌, true, List, length}
use Rattle.std.proofs.Common.{get_or, take, sym, ap, subst, ◌∙◌, arith}
use Rattle.std.specs.List.{Contains}
use Rattle.byte_formats.specs.Types.{Hash, HashFunction, Text}
use Rattle.tree_proofs.proofs.Fulls.{some_in}
use Rattle.tree_proofs.specs.Consistency.{Checks}
use Rattle.tree_proofs.specs.declared.checkpoint.Checkpoint.{Checkpoint}
use Rattle.collide.proofs.Extracting.{IsSized}
use Rattle.collide.specs.Inputs.{open_inputs_of}
use Rattle.cosigner_core.specs.Progress.{first_progress}
use Rattle.cosigner_core.specs.declared.step.Step.{Step}
use Rattle.cosigner_core.specs.declared.step.Step.TheVariants.{Advance, Sign}
use Rattle.cosigner_steps.proofs.Steps.{KeepsHeld, advance_checks, allowed_at, held_advance}
use Rattle.cosigner_steps.proofs.Steps.{held_same, inputs_at, sign_checks}
use Rattle.cosigner_steps.specs.Steps.{AreSteps, held_by_first, held_by, proof_inputs, with_steps}
use Rattle.quarrel_core.proofs.Joins.{ProofsJoin_always}
use Rattle.quarrel_core.specs.Carrying.{TextsAmong, CarriesTo, IsCarried}
use Rattle.quarrel_core.specs.Sizes.{AreFullHashes}
use Rattle.quarrel_core.specs.Joining.{joined_of}
use Rattle.quarrel_core.specs.Laws.{Joins}
use Rattle.quarrel_core.specs.declared.joined.Joined.{Joined}
use Rattle.quarrel_core.specs.declared.joined.Joined.TheVariants.{Neither, Pair, Proof}

-- the proof of a Sign, where it was made
pub sign_carried : (h : HashFunction) (steps : List Step) (k index start end : ℕ) (hash : Hash)
    (proof : List Hash) → AreSteps h steps → k < length steps
    → Sign index start end hash proof ≡ get_or steps k (Sign index start end hash proof)
    → AreFullHashes proof
    → IsCarried h start end hash (held_by_first h steps k) (proof_inputs h steps) proof
unfolding held_by
sign_carried h steps k index start end hash proof are below is whole = record {
  checks = sign_checks h are.terms (with_steps (first_progress h) (take k steps)) index start end
      hash proof (allowed_at h are.terms (first_progress h) are.done steps k
      (Sign index start end hash proof) are.each below is);
  inputs = λ t within. inputs_at h (first_progress h) steps k (Sign index start end hash proof) t
      below is within;
  whole = whole;
}

-- What an Advance shows, where some entries are held.
pub record IsOnward (h : HashFunction) (held : Checkpoint) (all : List Text) (size : ℕ)
    (root : Hash) (proof : List Hash) : Type 0 where
  pub grows : held.size ≤ size
  pub checks : Checks h 0 held.size size held.root root proof
  pub inputs : TextsAmong (open_inputs_of h 0 held.size size true held.root proof) all

pub leads_onward : (h : HashFunction) (steps : List Step) (k size : ℕ) (root : Hash)
    (proof : List Hash) → AreSteps h steps → k < length steps
    → Advance size root proof ≡ get_or steps k (Advance size root proof)
    → 0 < (held_by_first h steps k).size
    → IsOnward h (held_by_first h steps k) (proof_inputs h steps) size root proof
unfolding held_by
leads_onward h steps k size root proof are below is some =
    let shown = advance_checks h are.terms (with_steps (first_progress h) (take k steps)) size root
    proof (allowed_at h are.terms (first_progress h) are.done steps k (Advance size root proof)
    are.each below is) in
    let more = shown.more in
    record {
      grows = omega arith;
      checks = ⊎_elim
          (λ (none : (with_steps (first_progress h) (take k steps)).held.size ≡ 0).
          let no : ⊥ = omega arith in absurd no)
          (λ (checks : Checks h 0 (with_steps (first_progress h) (take k steps)).held.size size
          (with_steps (first_progress h) (take k steps)).held.root root proof). checks)
          shown.shown;
      inputs = λ t within. inputs_at h (first_progress h) steps k (Advance size root proof) t below
          is within;
    }

carries_joined : (h : HashFunction) (start end size : ℕ) (node root : Hash)
    (firsts seconds all : List Text) → TextsAmong firsts all → TextsAmong seconds all → (j : Joined)
    → Joins h start end size node root firsts seconds j
    → CarriesTo h start end node (record { size = size; root = root }) all j
carries_joined h start end size node root firsts seconds all first second (Proof r) is = record {
  checks = is.checks;
  inputs = λ t within. ⊎_elim
      (λ (v : Contains firsts t). first t v) (λ (w : Contains seconds t). second t w)
      (is.inputs t within);
  whole = is.whole;
}
carries_joined h start end size node root firsts seconds all first second (Pair x y) is = record {
  differ = is.differ;
  one_hash = is.one_hash;
  first = first x is.first;
  second = second y is.second;
}
carries_joined h start end size node root firsts seconds all first second Neither is = is

pub carried_some : (h : HashFunction) (start end : ℕ) (node : Hash) (held : Checkpoint)
    (all : List Text) (proof : List Hash) → IsCarried h start end node held all proof
    → 0 < held.size
carried_some h start end node held all proof is =
    let some = some_in start end is.checks.valid in
    let within = is.checks.within in
    omega arith

-- over an Advance
pub over_advance : (h : HashFunction) → IsSized h → (steps : List Step) (k start end size : ℕ)
    (node root : Hash) (proof next : List Hash) (joined : Joined) → AreSteps h steps
    → k < length steps → Advance size root next ≡ get_or steps k (Advance size root next)
    → AreFullHashes next
    → IsCarried h start end node (held_by_first h steps k) (proof_inputs h steps) proof
    → joined ≡ joined_of h start end (held_by_first h steps k).size size node
    (held_by_first h steps k).root proof next
    → CarriesTo h start end node (held_by_first h steps (k + 1)) (proof_inputs h steps) joined
over_advance h sized steps k start end size node root proof next joined are below is whole carried
    joined_is =
    let held = held_by_first h steps k in
    let all = proof_inputs h steps in
    let onward = leads_onward h steps k size root next are below is
    (carried_some h start end node held all proof carried) in
    subst (λ (c : Checkpoint). CarriesTo h start end node c all joined)
    (sym (held_advance h steps k size root next below is))
    (subst (λ (j : Joined). CarriesTo h start end node (record { size = size; root = root }) all j)
    (sym joined_is)
    (carries_joined h start end size node root
    (open_inputs_of h start end held.size true node proof)
    (open_inputs_of h 0 held.size size true held.root next) all carried.inputs onward.inputs
    (joined_of h start end held.size size node held.root proof next)
    (ProofsJoin_always h sized start end held.size size node held.root root proof next onward.grows
    carried.whole whole carried.checks onward.checks)))

-- over a step that changes nothing of what is held
pub over_same : (h : HashFunction) (steps : List Step) (k start end : ℕ) (node : Hash)
    (proof : List Hash) (s : Step) → KeepsHeld s → k < length steps → s ≡ get_or steps k s
    → IsCarried h start end node (held_by_first h steps k) (proof_inputs h steps) proof
    → CarriesTo h start end node (held_by_first h steps (k + 1)) (proof_inputs h steps)
    (Proof proof)
over_same h steps k start end node proof s keeps below is carried =
    subst (λ (c : Checkpoint). IsCarried h start end node c (proof_inputs h steps) proof)
    (sym (held_same h steps k s keeps below is)) carried

-- The same where what is held, and both proofs, have names of their own.

pub advance_grows : (h : HashFunction) (steps : List Step) (k start end size : ℕ) (node root : Hash)
    (held : Checkpoint) (proof next : List Hash) → AreSteps h steps → k < length steps
    → Advance size root next ≡ get_or steps k (Advance size root next)
    → held ≡ held_by_first h steps k
    → IsCarried h start end node held (proof_inputs h steps) proof
    → held.size ≤ size
advance_grows h steps k start end size node root held proof next are below is held_is carried =
    let some = carried_some h start end node held (proof_inputs h steps) proof carried in
    let same : held.size ≡ (held_by_first h steps k).size =
    ap (λ (c : Checkpoint). c.size) held_is in
    let more = (leads_onward h steps k size root next are below is (omega arith)).grows in
    omega arith

pub advance_carries : (h : HashFunction) → IsSized h → (steps : List Step) (k start end size : ℕ)
    (node root : Hash) (held : Checkpoint) (proof next first second : List Hash) (joined : Joined)
    → AreSteps h steps → k < length steps
    → Advance size root next ≡ get_or steps k (Advance size root next)
    → held ≡ held_by_first h steps k
    → IsCarried h start end node held (proof_inputs h steps) proof
    → first ≡ proof → second ≡ next → AreFullHashes second
    → joined ≡ joined_of h start end held.size size node held.root first second
    → CarriesTo h start end node (held_by_first h steps (k + 1)) (proof_inputs h steps) joined
advance_carries h sized steps k start end size node root held proof next first second joined are
    below is held_is carried first_is second_is whole joined_is =
    let there = held_by_first h steps k in
    over_advance h sized steps k start end size node root proof next joined are below is
    (subst AreFullHashes second_is whole)
    (subst (λ (c : Checkpoint). IsCarried h start end node c (proof_inputs h steps) proof) held_is
    carried)
    (joined_is
    ∙ ap (λ (c : Checkpoint). joined_of h start end c.size size node c.root first second) held_is
    ∙ ap (λ (p : List Hash). joined_of h start end there.size size node there.root p second)
    first_is
    ∙ ap (joined_of h start end there.size size node there.root proof) second_is)

pub same_carries : (h : HashFunction) (steps : List Step) (k start end : ℕ) (node : Hash)
    (held : Checkpoint) (proof : List Hash) (s : Step) → KeepsHeld s → k < length steps
    → s ≡ get_or steps k s → held ≡ held_by_first h steps k
    → IsCarried h start end node held (proof_inputs h steps) proof
    → IsCarried h start end node (held_by_first h steps (k + 1)) (proof_inputs h steps) proof
same_carries h steps k start end node held proof s keeps below is held_is carried =
    over_same h steps k start end node proof s keeps below is
    (subst (λ (c : Checkpoint). IsCarried h start end node c (proof_inputs h steps) proof) held_is
    carried)
