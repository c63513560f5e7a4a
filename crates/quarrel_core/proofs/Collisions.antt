-- Two Signs in conflict, and the two strings that their proofs show; the order of keys.
use Rattle.std.proofs.Common.{◌≡◌, ◌⊎◌, ⊎_elim, ℕ, zero, suc, ◌+◌, ◌<◌, ◌≤◌, true, List, []}
use Rattle.std.proofs.Common.{◌∷◌, ◌++◌, length, get_or, take, Some, sym, ap, subst, ◌∙◌, arith}
use Rattle.std.proofs.Common.{eqb-true, inl, inr, refl, ◌-◌}
use Rattle.std.specs.Prelude.{slice_get, ◌==◌}
use Rattle.std.specs.List.{AllByRecursion}
use Rattle.std.proofs.lemmas.Bool.{and_parts, cases_order}
use Rattle.std.proofs.lemmas.List.{get_or_default, take-take, take_more}
use Rattle.std.proofs.lemmas.Option.{get_or_from_slice_get, same_Some, slice_get_within}
use Rattle.byte_formats.specs.Types.{Hash, HashFunction}
use Rattle.collide.proofs.Extracting.{IsSized, found_wider}
use Rattle.collide.specs.Extraction.{HasCollision}
use Rattle.collide.specs.Inputs.{open_inputs_of}
use Rattle.cosigner_steps.proofs.OneList.{hashes_at}
use Rattle.cosigner_core.specs.Progress.{first_progress, with_step}
use Rattle.cosigner_core.specs.declared.progress.Progress.{Progress}
use Rattle.cosigner_core.specs.declared.step.Step.{Step}
use Rattle.cosigner_core.specs.declared.step.Step.TheVariants.{Advance, Child, Sign}
use Rattle.cosigner_steps.proofs.Steps.{allowed_at, with_steps_push}
use Rattle.cosigner_steps.specs.Laws.{HasHashes}
use Rattle.cosigner_steps.specs.Steps.{AreSteps, held_by_first, proof_inputs, with_steps}
use Rattle.quarrel_core.proofs.Carries.{over_advance, over_same, sign_carried}
use Rattle.quarrel_core.proofs.Contrasts.{OneSubtree_always}
use Rattle.quarrel_core.specs.Carrying.{CarriesTo, IsCarried}
use Rattle.quarrel_core.specs.Joining.{joined_of}
use Rattle.quarrel_core.specs.ConflictLaws.{AreInConflict, KeysRise, QuarrelsCollide}
use Rattle.quarrel_core.specs.declared.joined.Joined.{Joined}
use Rattle.quarrel_core.specs.declared.joined.Joined.TheVariants.{Neither, Pair, Proof}

-- A step that is read at an index.

pub read_at : (steps : List Step) (k : ℕ) (s : Step) → slice_get steps k ≡ Some s
    → s ≡ get_or steps k s
read_at steps k s is = sym (get_or_from_slice_get steps k s s is)

-- One step on, and many.

abbrev CarriedOr : HashFunction → List Step → ℕ → ℕ → Hash → ℕ → Type 0
CarriedOr h steps start end node k =
    ((r : List Hash)
    × IsCarried h start end node (held_by_first h steps k) (proof_inputs h steps) r)
    ⊎ HasCollision h (proof_inputs h steps) (proof_inputs h steps)

carried_or : (h : HashFunction) (steps : List Step) (start end : ℕ) (node : Hash) (k : ℕ)
    (j : Joined)
    → CarriesTo h start end node (held_by_first h steps k) (proof_inputs h steps) j
    → CarriedOr h steps start end node k
carried_or h steps start end node k (Proof r) is = inl (r, is)
carried_or h steps start end node k (Pair x y) is = inr (x, (y, is))
carried_or h steps start end node k Neither is = absurd is

step_on : (h : HashFunction) → IsSized h → (steps : List Step) (k start end : ℕ) (node : Hash)
    (proof : List Hash) (s : Step) → AreSteps h steps → k < length steps → s ≡ get_or steps k s
    → HasHashes s
    → IsCarried h start end node (held_by_first h steps k) (proof_inputs h steps) proof
    → CarriedOr h steps start end node (k + 1)
step_on h sized steps k start end node proof (Advance size root next) are below is whole carried =
    let joined = joined_of h start end (held_by_first h steps k).size size node
    (held_by_first h steps k).root proof next in
    carried_or h steps start end node (k + 1) joined
    (over_advance h sized steps k start end size node root proof next joined are below is whole
    carried refl)
step_on h sized steps k start end node proof (Sign index from to hash shown) are below is whole
    carried =
    carried_or h steps start end node (k + 1) (Proof proof)
    (over_same h steps k start end node proof (Sign index from to hash shown) (λ p. refl) below is
    carried)
step_on h sized steps k start end node proof (Child child low) are below is whole carried =
    carried_or h steps start end node (k + 1) (Proof proof)
    (over_same h steps k start end node proof (Child child low) (λ p. refl) below is carried)

steps_on : (n : ℕ) (h : HashFunction) → IsSized h → (steps : List Step) (k j start end : ℕ)
    (node : Hash) (proof : List Hash) → AreSteps h steps → AllByRecursion HasHashes steps
    → k + n ≡ j → j ≤ length steps
    → IsCarried h start end node (held_by_first h steps k) (proof_inputs h steps) proof
    → CarriedOr h steps start end node j
steps_on zero h sized steps k j start end node proof are hashes ends within carried =
    let here : k ≡ j = omega arith in
    subst (CarriedOr h steps start end node) here (inl (proof, carried))
steps_on (suc n) h sized steps k j start end node proof are hashes ends within carried =
    let below : k < length steps = omega arith in
    let s : Step = get_or steps k (Advance 0 [] []) in
    let is : s ≡ get_or steps k s = get_or_default steps k (Advance 0 [] []) s below in
    ⊎_elim
    (λ (on : (r : List Hash)
    × IsCarried h start end node (held_by_first h steps (k + 1)) (proof_inputs h steps) r).
    steps_on n h sized steps (k + 1) j start end node on.0 are hashes (omega arith) within on.1)
    (λ (found : HasCollision h (proof_inputs h steps) (proof_inputs h steps)). inr found)
    (step_on h sized steps k start end node proof s are below is
    (hashes_at steps k s hashes below is) carried)

-- At the second Sign.
ends_in : (h : HashFunction) (steps : List Step) (j start end : ℕ) (node hash : Hash)
    (r proof : List Hash)
    → IsCarried h start end node (held_by_first h steps j) (proof_inputs h steps) r
    → IsCarried h start end hash (held_by_first h steps j) (proof_inputs h steps) proof
    → (node ≡ hash → ⊥) → HasCollision h (proof_inputs h steps) (proof_inputs h steps)
ends_in h steps j start end node hash r proof one other differ =
    let held = held_by_first h steps j in
    ⊎_elim
    (λ (same : node ≡ hash). absurd (differ same))
    (λ (found : HasCollision h (open_inputs_of h start end held.size true node r)
    (open_inputs_of h start end held.size true hash proof)).
    found_wider h (open_inputs_of h start end held.size true node r)
    (open_inputs_of h start end held.size true hash proof) (proof_inputs h steps)
    (proof_inputs h steps) one.inputs other.inputs found)
    (OneSubtree_always h start end held.size node hash held.root r proof one.whole other.whole
    one.checks other.checks)

rising : (h : HashFunction) → IsSized h → (steps : List Step) (i j : ℕ) (one other : Step)
    → AreSteps h steps → AllByRecursion HasHashes steps → i < j
    → slice_get steps i ≡ Some one → slice_get steps j ≡ Some other → AreInConflict one other
    → HasCollision h (proof_inputs h steps) (proof_inputs h steps)
rising h sized steps i j (Sign a s e hash p) (Sign b t f node q) are hashes less first second is =
    let below = slice_get_within steps j (Sign b t f node q) second in
    let sooner = slice_get_within steps i (Sign a s e hash p) first in
    let one = read_at steps i (Sign a s e hash p) first in
    let other = read_at steps j (Sign b t f node q) second in
    let carried = sign_carried h steps i a s e hash p are sooner one
    (hashes_at steps i (Sign a s e hash p) hashes sooner one) in
    let at_j = sign_carried h steps j b t f node q are below other
    (hashes_at steps j (Sign b t f node q) hashes below other) in
    let here : IsCarried h s e node (held_by_first h steps j) (proof_inputs h steps) q =
    subst (λ (x : ℕ). IsCarried h x e node (held_by_first h steps j) (proof_inputs h steps) q)
    (sym is.0)
    (subst (λ (x : ℕ). IsCarried h t x node (held_by_first h steps j) (proof_inputs h steps) q)
    (sym is.1) at_j) in
    ⊎_elim
    (λ (on : (r : List Hash)
    × IsCarried h s e hash (held_by_first h steps j) (proof_inputs h steps) r).
    ends_in h steps j s e hash node on.0 q on.1 here is.2)
    (λ (found : HasCollision h (proof_inputs h steps) (proof_inputs h steps)). found)
    (steps_on (j - i) h sized steps i j s e hash p are hashes (omega arith) (omega arith) carried)
rising h sized steps i j (Sign a s e hash p) (Advance size root q) are hashes less first second is =
    absurd is
rising h sized steps i j (Sign a s e hash p) (Child child low) are hashes less first second is =
    absurd is
rising h sized steps i j (Advance size root p) other are hashes less first second is = absurd is
rising h sized steps i j (Child child low) other are hashes less first second is = absurd is

turned_conflict : (x y : Step) → AreInConflict x y → AreInConflict y x
turned_conflict (Sign a s e hash p) (Sign b t f node q) is =
    (sym is.0, sym is.1, λ same. is.2 (sym same))
turned_conflict (Sign a s e hash p) (Advance size root q) is = absurd is
turned_conflict (Sign a s e hash p) (Child child low) is = absurd is
turned_conflict (Advance size root p) y is = absurd is
turned_conflict (Child child low) y is = absurd is

self_conflict : (x y : Step) → x ≡ y → AreInConflict x y → ⊥
self_conflict x y same is = self x (subst (AreInConflict x) (sym same) is)
  where
    self : (x : Step) → AreInConflict x x → ⊥
    self (Sign a s e hash p) is = is.2 refl
    self (Advance size root p) is = is
    self (Child child low) is = is

pub QuarrelsCollide_always : (h : HashFunction) → IsSized h → QuarrelsCollide h
QuarrelsCollide_always h sized steps i j are hashes at =
    ⊎_elim
    (λ (same : i ≡ j).
    absurd (self_conflict at.one at.other
    (same_Some at.one at.other (sym at.first ∙ ap (slice_get steps) same ∙ at.second))
    at.conflict))
    (λ (apart : (i < j) ⊎ (j < i)).
    ⊎_elim
    (λ (less : i < j).
    rising h sized steps i j at.one at.other are hashes less at.first at.second at.conflict)
    (λ (more : j < i).
    rising h sized steps j i at.other at.one are hashes more at.second at.first
    (turned_conflict at.one at.other at.conflict))
    apart)
    (cases_order i j)

-- The numbers of keys.

next_grows : (p : Progress) (steps : List Step) → p.next ≤ (with_steps p steps).next
unfolding with_steps
next_grows p [] = omega arith
next_grows p (Advance size root proof ∷ steps) =
    next_grows (with_step p (Advance size root proof)) steps
next_grows p (Sign index start end hash proof ∷ steps) =
    let more = next_grows (with_step p (Sign index start end hash proof)) steps in
    omega arith
next_grows p (Child child low ∷ steps) = next_grows (with_step p (Child child low)) steps

next_taken : (p : Progress) (steps : List Step) (k : ℕ)
    → (with_steps p (take k steps)).next ≤ (with_steps p steps).next
unfolding with_steps
next_taken p steps zero = next_grows p steps
next_taken p [] (suc k) = omega arith
next_taken p (s ∷ steps) (suc k) = next_taken (with_step p s) steps k

key_is : (h : HashFunction) (steps : List Step) (k index start end : ℕ) (hash : Hash)
    (proof : List Hash) → AreSteps h steps
    → slice_get steps k ≡ Some (Sign index start end hash proof)
    → index ≡ (with_steps (first_progress h) (take k steps)).next
key_is h steps k index start end hash proof are at =
    let p = with_steps (first_progress h) (take k steps) in
    let s : Step = Sign index start end hash proof in
    let below = slice_get_within steps k (Sign index start end hash proof) at in
    let allowed = allowed_at h are.terms (first_progress h) are.done steps k
    (Sign index start end hash proof) are.each below
    (read_at steps k (Sign index start end hash proof) at) in
    eqb-true index p.next (and_parts (index == p.next) _ allowed).0

pub KeysRise_always : (h : HashFunction) → KeysRise h
KeysRise_always h steps i j a b start end from to hash node proof shown are less first second =
    let s : Step = Sign a start end hash proof in
    let p = first_progress h in
    let below = slice_get_within steps i (Sign a start end hash proof) first in
    let one = key_is h steps i a start end hash proof are first in
    let other = key_is h steps j b from to node shown are second in
    let following : (with_steps p (take (i + 1) steps)).next
    ≡ (with_steps p (take i steps)).next + 1 =
    ap (λ (xs : List Step). (with_steps p xs).next)
    (take_more steps i (Sign a start end hash proof) below
    ∙ ap (λ (x : Step). take i steps ++ x ∷ [])
    (get_or_from_slice_get steps i (Sign a start end hash proof) (Sign a start end hash proof)
    first))
    ∙ ap (λ (q : Progress). q.next) (with_steps_push p (take i steps)
    (Sign a start end hash proof)) in
    let taken : (with_steps p (take (i + 1) steps)).next ≤ (with_steps p (take j steps)).next =
    subst (λ (xs : List Step). (with_steps p xs).next ≤ (with_steps p (take j steps)).next)
    (take-take (i + 1) j steps (omega arith)) (next_taken p (take j steps) (i + 1)) in
    omega arith
