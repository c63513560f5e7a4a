-- What a conflict that was found says of both steps, and what two strings make of it.
use Rattle.std.proofs.Common.{◌≡◌, ℕ, ◌<◌, List, length, get_or, Some, sym, ◌∙◌, ap}
use Rattle.std.proofs.Common.{subst, true}
use Rattle.std.specs.Prelude.{option_map, slice_get}
use Rattle.std.specs.List.{Contains}
use Rattle.std.proofs.lemmas.Option.{get_or_from_slice_get, same_Some, slice_get-get_or}
use Rattle.std.proofs.lemmas.Option.{slice_get_within}
use Rattle.byte_formats.specs.Types.{Hash, HashFunction, Text}
use Rattle.tree_proofs.specs.Consistency.{Checks}
use Rattle.tree_proofs.specs.declared.checkpoint.Checkpoint.{Checkpoint}
use Rattle.collide.proofs.Compared.{collision_widened}
use Rattle.collide.specs.Extraction.{Extracts, IsCollision}
use Rattle.collide.specs.Inputs.{open_inputs_of}
use Rattle.collide.specs.declared.finding.Finding.{Finding}
use Rattle.collide.specs.declared.finding.Finding.TheVariants.{Pair, Same}
use Rattle.cosigner_core.specs.declared.step.Step.{Step}
use Rattle.cosigner_core.specs.declared.step.Step.TheVariants.{Advance, Child, Sign}
use Rattle.cosigner_steps.proofs.Holding.{NeverSigns, never_sign}
use Rattle.cosigner_steps.specs.Steps.{AreSteps, IsSign, Shows, held_by_first, proof_inputs}
use Rattle.quarrel_core.proofs.Carries.{sign_carried}
use Rattle.quarrel_core.proofs.InConflict.{first_conflict}
use Rattle.quarrel_core.specs.Carrying.{CarriesTo, IsCarried}
use Rattle.quarrel_core.specs.declared.joined.Joined.{Joined}
use Rattle.quarrel_core.specs.declared.joined.Joined.TheVariants.{Proof}
use Rattle.quarrel_core.specs.Sizes.{AreFullHashes}
use Rattle.quarrel_core.specs.Conflicts.{conflict_in, key_in, keys_at, quarrel_of}
use Rattle.quarrel_core.specs.ConflictLaws.{AreInConflict}

pub record AreIndices (steps : List Step) (i j : ℕ) : Type 0 where
  pub order : i < j
  pub first : i < length steps
  pub second : j < length steps

pub conflict_indices : (steps : List Step) (i j : ℕ) → conflict_in steps ≡ Some (i, j)
    → AreIndices steps i j
conflict_indices steps i j found =
    let is = first_conflict steps i j found in
    let at = is.conflict in
    record {
      order = is.order;
      first = slice_get_within steps i at.one at.first;
      second = slice_get_within steps j at.other at.second;
    }

pub conflict_steps : (steps : List Step) (i j : ℕ) (x y : Step)
    → conflict_in steps ≡ Some (i, j) → x ≡ get_or steps i x → y ≡ get_or steps j y
    → AreInConflict x y
conflict_steps steps i j x y found first second =
    let at = (first_conflict steps i j found).conflict in
    let indices = conflict_indices steps i j found in
    let one : at.one ≡ x =
    same_Some at.one x (sym at.first ∙ slice_get-get_or steps i x indices.first
    ∙ ap (λ (s : Step). Some s) (sym first)) in
    let other : at.other ≡ y =
    same_Some at.other y (sym at.second ∙ slice_get-get_or steps j y indices.second
    ∙ ap (λ (s : Step). Some s) (sym second)) in
    subst (λ (s : Step). AreInConflict s y) one (subst (AreInConflict at.one) other at.conflict)

-- Both are Signs.
pub are_signs : (x y : Step) → AreInConflict x y → IsSign x × IsSign y
are_signs (Sign i s e a p) (Sign j t f b q) is = (tt, tt)
are_signs (Sign i s e a p) (Advance size root q) is = absurd is
are_signs (Sign i s e a p) (Child child low) is = absurd is
are_signs (Advance size root p) y is = absurd is
are_signs (Child child low) y is = absurd is

pub first_signs : (steps : List Step) (i j : ℕ) (x : Step) → conflict_in steps ≡ Some (i, j)
    → x ≡ get_or steps i x → NeverSigns x → ⊥
first_signs steps i j x found first none =
    let at = (first_conflict steps i j found).conflict in
    never_sign x none (are_signs x at.other
    (conflict_steps steps i j x at.other found first
    (sym (get_or_from_slice_get steps j at.other at.other at.second)))).0

pub second_signs : (steps : List Step) (i j : ℕ) (y : Step) → conflict_in steps ≡ Some (i, j)
    → y ≡ get_or steps j y → NeverSigns y → ⊥
second_signs steps i j y found second none =
    let at = (first_conflict steps i j found).conflict in
    never_sign y none (are_signs at.one y
    (conflict_steps steps i j at.one y found
    (sym (get_or_from_slice_get steps i at.one at.one at.first)) second)).1

-- The proofs of both Signs, for the interval of the first.
pub first_carried : (h : HashFunction) (steps : List Step) (i index start end : ℕ) (hash : Hash)
    (proof read : List Hash) → AreSteps h steps → i < length steps
    → Sign index start end hash proof ≡ get_or steps i (Sign index start end hash proof)
    → read ≡ proof → AreFullHashes read
    → IsCarried h start end hash (held_by_first h steps i) (proof_inputs h steps) read
first_carried h steps i index start end hash proof read are below is same whole =
    subst (λ (p : List Hash). IsCarried h start end hash (held_by_first h steps i)
    (proof_inputs h steps) p) (sym same)
    (sign_carried h steps i index start end hash proof are below is
    (subst AreFullHashes same whole))

pub second_carried : (h : HashFunction) (steps : List Step) (j index start end from to : ℕ)
    (hash : Hash) (proof read : List Hash) → AreSteps h steps → j < length steps
    → Sign index from to hash proof ≡ get_or steps j (Sign index from to hash proof)
    → read ≡ proof → AreFullHashes read → start ≡ from → end ≡ to
    → IsCarried h start end hash (held_by_first h steps j) (proof_inputs h steps) read
second_carried h steps j index start end from to hash proof read are below is same whole first
    last =
    subst (λ (x : ℕ). IsCarried h x end hash (held_by_first h steps j) (proof_inputs h steps) read)
    (sym first)
    (subst (λ (x : ℕ). IsCarried h from x hash (held_by_first h steps j) (proof_inputs h steps)
    read) (sym last)
    (first_carried h steps j index from to hash proof read are below is same whole))

-- what was carried is a proof
pub carried_proof : (h : HashFunction) (start end : ℕ) (node : Hash) (there : Checkpoint)
    (all : List Text) (j : Joined) (r read : List Hash) → j ≡ Proof r → read ≡ r
    → CarriesTo h start end node there all j → IsCarried h start end node there all read
carried_proof h start end node there all j r read is same to =
    subst (λ (p : List Hash). IsCarried h start end node there all p) (sym same)
    (subst (CarriesTo h start end node there all) is to)

pub checks_there : (h : HashFunction) (start end : ℕ) (node : Hash) (held there : Checkpoint)
    (all : List Text) (proof : List Hash) → held ≡ there
    → IsCarried h start end node there all proof
    → Checks h start end held.size node held.root proof
checks_there h start end node held there all proof same is =
    subst (λ (c : Checkpoint). Checks h start end c.size node c.root proof) (sym same) is.checks

-- what two proofs of different hashes show
pub shown_by : (h : HashFunction) (start end : ℕ) (node other : Hash) (held there : Checkpoint)
    (all : List Text) (first second : List Hash) (found : Finding) → held ≡ there
    → (node ≡ other → ⊥)
    → IsCarried h start end node there all first → IsCarried h start end other there all second
    → Extracts h (node ≡ other) (open_inputs_of h start end held.size true node first)
    (open_inputs_of h start end held.size true other second) found
    → Shows h all all found
shown_by h start end node other held there all first second Same same differ one two is = differ is
shown_by h start end node other held there all first second (Pair x y) same differ one two is =
    let size : held.size ≡ there.size = ap (λ (c : Checkpoint). c.size) same in
    collision_widened h (open_inputs_of h start end held.size true node first)
    (open_inputs_of h start end held.size true other second) all all x y
    (λ within. one.inputs x (subst (λ (n : ℕ). Contains (open_inputs_of h start end n true node
    first) x) size within))
    (λ within. two.inputs y (subst (λ (n : ℕ). Contains (open_inputs_of h start end n true other
    second) y) size within))
    is.1

-- the keys of both
pub keys_found : (steps : List Step) (i j first second : ℕ) → conflict_in steps ≡ Some (i, j)
    → first ≡ key_in (slice_get steps i) → second ≡ key_in (slice_get steps j)
    → quarrel_of steps ≡ Some (first, second)
keys_found steps i j first second found first_is second_is =
    ap (option_map (keys_at steps)) found
    ∙ ap (λ (a : ℕ). Some (a, key_in (slice_get steps j))) (sym first_is)
    ∙ ap (λ (b : ℕ). Some (first, b)) (sym second_is)

pub quarrel_found : (h : HashFunction) (steps kept : List Step) (i j first second : ℕ)
    (x y : Text) → steps ≡ kept → conflict_in steps ≡ Some (i, j)
    → first ≡ key_in (slice_get steps i) → second ≡ key_in (slice_get steps j)
    → IsCollision h (proof_inputs h steps) (proof_inputs h steps) x y
    → (quarrel_of kept ≡ Some (first, second))
    × IsCollision h (proof_inputs h kept) (proof_inputs h kept) x y
quarrel_found h steps kept i j first second x y same found first_is second_is collides = (
  ap quarrel_of (sym same) ∙ keys_found steps i j first second found first_is second_is,
  subst (λ (s : List Step). IsCollision h (proof_inputs h s) (proof_inputs h s) x y) same
      collides,
)
