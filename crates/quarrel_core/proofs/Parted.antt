-- What two proofs give together, where the entries of the first go beyond the second's split: by
-- where the subtree lies.
use Rattle.std.proofs.Common.{◌≡◌, ℕ, ◌+◌, ◌-◌, ◌^◌, ◌<◌, ◌≤◌, ◌⊎◌, ⊎_elim, inl, inr, Bool}
use Rattle.std.proofs.Common.{false, List}
use Rattle.std.proofs.Common.{[], ◌∷◌, Some, sym, ◌∙◌, ap, refl, subst, arith}
use Rattle.std.specs.Prelude.{Option, option_map}
use Rattle.std.specs.List.{Contains}
use Rattle.std.proofs.lemmas.List.Elements.{Contains-append_cases}
use Rattle.byte_formats.specs.Types.{Hash, HashFunction, Text}
use Rattle.tree_core.proofs.Powers.{split_bounds, split_power, split_unique}
use Rattle.tree_core.specs.Split.{split_of}
use Rattle.tree_core.specs.Tree.{pair_hash}
use Rattle.tree_proofs.proofs.Opens.{open-left, open-over, open-right}
use Rattle.tree_proofs.specs.declared.outcome.Opened.{Opened}
use Rattle.tree_proofs.specs.Open.{both_right_of, open_from_root, opened_at, root_left_of}
use Rattle.tree_proofs.specs.Open.{root_right_of}
use Rattle.collide.proofs.Extracting.{IsSized}
use Rattle.collide.proofs.Hashed.{first_in, only_in}
use Rattle.collide.proofs.Opening.{open_inputs_left, open_inputs_over, open_inputs_right}
use Rattle.collide.specs.Inputs.{inputs_left, inputs_over, inputs_right, open_inputs_from_root}
use Rattle.collide.specs.Inputs.{pair_input}
use Rattle.quarrel_core.proofs.JoiningSteps.{joined_there}
use Rattle.quarrel_core.proofs.Levels.{tested, separated_by_left, separated_by_right}
use Rattle.quarrel_core.proofs.Openings.{AreOpened, IsStep, begins_first, not_whole, step_left}
use Rattle.quarrel_core.proofs.Openings.{over_root_in, over_subtree_in}
use Rattle.quarrel_core.proofs.Openings.{step_over, step_right, unknown_sized}
use Rattle.quarrel_core.specs.Sizes.{AreFullHashes}
use Rattle.quarrel_core.specs.Joining.{joined_right, joined_left, joined_with}
use Rattle.quarrel_core.specs.declared.joined.Joined.TheVariants.{Pair, Proof}
use Rattle.quarrel_core.proofs.TwoProofs.{AreTwo, JoinsTo, TwoJoin, joins_pair, joins_proof, raised}

-- The first proof's entries go beyond the second's split, and are split there too.

pub prefix_split : (n m : ℕ) → n ≤ m → split_of m < n → split_of n ≡ split_of m
prefix_split n m grows above =
    let power = split_power m in
    let is : split_of m ≡ 2 ^ power.0 = power.1 in
    let bounds = split_bounds m in
    split_unique n power.0 (omega arith) (omega arith) ∙ sym is

-- What the second proof gives after the split.
abbrev BesideStep : HashFunction → ℕ → ℕ → Bool → Hash → Hash → List Hash → Opened → Type 0
BesideStep h n m still prefix z q other =
    IsStep h 0 (n - split_of m) (m - split_of m) false prefix q (both_right_of h z) (inputs_over z)
    other (open_inputs_from_root h 0 n m still prefix (z ∷ q))

beside_step : (h : HashFunction) (s e n m : ℕ) (known still : Bool) (node prefix z : Hash)
    (p q : List Hash) (one other : Opened)
    → AreTwo h s e n m known still node prefix p (z ∷ q) one other → n < m → split_of m < n
    → BesideStep h n m still prefix z q other
beside_step h s e n m known still node prefix z p q one other two less above =
    let bounds = split_bounds m in
    let positive = bounds.positive in
    step_over h 0 n m still prefix z q other (omega arith) refl above less two.second

beside_sized : (h : HashFunction) → IsSized h → (n m : ℕ) (still : Bool) (prefix z : Hash)
    (q : List Hash) (other : Opened) → n < m → split_of m < n → AreFullHashes q
    → (step : BesideStep h n m still prefix z q other) → AreOpened step.below
beside_sized h sized n m still prefix z q other less above whole step =
    unknown_sized q h sized 0 (n - split_of m) (m - split_of m) prefix step.below (omega arith)
    (omega arith) whole step.gives

-- the second hash of the node that both hash
beside_meets : (h : HashFunction) (n m : ℕ) (still : Bool) (prefix z : Hash) (q : List Hash)
    (one other : Opened) (step : BesideStep h n m still prefix z q other)
    → one.root ≡ other.subtree → one.root ≡ pair_hash h z step.below.subtree
beside_meets h n m still prefix z q one other step meet =
    meet ∙ sym (ap (λ (o : Opened). o.subtree) step.is)

-- The subtree lies left of the split.
pub part_left : (h : HashFunction) → IsSized h → (s e n m : ℕ) (known still : Bool)
    (node prefix z y : Hash) (p q : List Hash) (one other : Opened)
    → AreTwo h s e n m known still node prefix (y ∷ p) (z ∷ q) one other → n < m → split_of m < n
    → e ≤ split_of m
    → JoinsTo h s e m known node one.subtree other.root
    (open_inputs_from_root h s e n known node (y ∷ p))
    (open_inputs_from_root h 0 n m still prefix (z ∷ q))
    (joined_left y z p (open_from_root h s e (split_of m) known node p)
    (open_from_root h 0 (n - split_of m) (m - split_of m) false prefix q))
part_left h sized s e n m known still node prefix z y p q one other two less above left =
    let order = two.order in
    let more : 1 < n = omega arith in
    let wide : 1 < m = omega arith in
    let split = prefix_split n m two.grows above in
    let inside : e ≤ split_of n = omega arith in
    let xs = open_inputs_from_root h s e n known node (y ∷ p) in
    let ys = open_inputs_from_root h 0 n m still prefix (z ∷ q) in
    let own = step_left h s e n known node y p one more inside two.first in
    let step = beside_step h s e n m known still node prefix z (y ∷ p) q one other two less above in
    let sizes = beside_sized h sized n m still prefix z q other less above two.seconds.1 step in
    let gives : open_from_root h s e (split_of m) known node p ≡ Some own.below =
    ap (λ (k : ℕ). open_from_root h s e k known node p) (sym split) ∙ own.gives in
    let rest_in : (t : Text) → Contains (open_inputs_from_root h s e (split_of m) known node p) t
    → Contains xs t =
    λ t within. own.rest t (subst (λ (k : ℕ).
    Contains (open_inputs_from_root h s e k known node p) t) (sym split) within) in
    let hashes : pair_hash h own.below.root y ≡ pair_hash h z step.below.subtree =
    ap (λ (o : Opened). o.root) own.is
    ∙ beside_meets h n m still prefix z q one other step two.meet in
    let subtree : own.below.subtree ≡ one.subtree = ap (λ (o : Opened). o.subtree) own.is in
    let root : pair_hash h z step.below.root ≡ other.root =
    ap (λ (o : Opened). o.root) step.is in
    subst (λ (o : Option Opened). JoinsTo h s e m known node one.subtree other.root xs ys
    (joined_left y z p o (open_from_root h 0 (n - split_of m) (m - split_of m) false prefix q)))
    (sym gives)
    (subst (λ (o : Option Opened). JoinsTo h s e m known node one.subtree other.root xs ys
    (joined_left y z p (Some own.below) o)) (sym step.gives)
    (tested (JoinsTo h s e m known node one.subtree other.root xs ys) h xs ys own.below.root y z
    step.below.subtree (Proof (step.below.root ∷ p))
    (Pair (pair_input own.below.root y) (pair_input z step.below.subtree))
    (separated_by_right own.below.root y z step.below.subtree (two.firsts.0 ∙ sym sizes.subtree))
    hashes
    (own.tops _ (first_in _ []))
    (step.tops _ (over_subtree_in z step.below))
    (λ same beside.
    joins_proof h s e m known node one.subtree other.root xs ys (step.below.root ∷ p)
    (record {
      opens = open-left h s e m (split_of m) known node step.below.root p wide refl left
          ∙ ap (option_map (root_left_of h step.below.root)) gives
          ∙ ap (λ (a : Hash). Some (opened_at a (pair_hash h own.below.root step.below.root)))
          subtree
          ∙ ap (λ (a : Hash). Some (opened_at one.subtree (pair_hash h a step.below.root))) same
          ∙ ap (λ (r : Hash). Some (opened_at one.subtree r)) root;
      inputs = λ t within.
          ⊎_elim
          (λ (top_in : Contains (inputs_left step.below.root
          (open_from_root h s e (split_of m) known node p)) t).
          let here : t ≡ pair_input own.below.root step.below.root =
          only_in _ t (subst (λ (o : Option Opened). Contains (inputs_left step.below.root o) t)
          gives top_in) in
          inr (step.tops t (subst (Contains (inputs_over z (Some step.below)))
          (sym (here ∙ ap (λ (a : Hash). pair_input a step.below.root) same))
          (over_root_in z step.below))))
          (λ (below_in : Contains (open_inputs_from_root h s e (split_of m) known node p) t).
          inl (rest_in t below_in))
          (Contains-append_cases
          (inputs_left step.below.root (open_from_root h s e (split_of m) known node p))
          (open_inputs_from_root h s e (split_of m) known node p) t
          (subst (λ all. Contains all t)
          (open_inputs_left h s e m (split_of m) known node step.below.root p wide refl left)
          within));
      whole = (sizes.root, two.firsts.1);
    }))
    (joins_pair h s e m known node one.subtree other.root xs ys
    (pair_input own.below.root y) (pair_input z step.below.subtree))))

-- The subtree lies after the split.
pub part_right : (h : HashFunction) → IsSized h → (s e n m : ℕ) (known still : Bool)
    (node prefix z y : Hash) (p q : List Hash) (one other : Opened)
    → AreTwo h s e n m known still node prefix (y ∷ p) (z ∷ q) one other → n < m → split_of m < n
    → split_of m ≤ s
    → ((part beside : Opened) → AreTwo h (s - split_of m) (e - split_of m) (n - split_of m)
    (m - split_of m) known false node prefix p q part beside
    → TwoJoin h (s - split_of m) (e - split_of m) (n - split_of m) (m - split_of m) known false node
    prefix p q part beside)
    → JoinsTo h s e m known node one.subtree other.root
    (open_inputs_from_root h s e n known node (y ∷ p))
    (open_inputs_from_root h 0 n m still prefix (z ∷ q))
    (joined_right y z
    (joined_there h n m node prefix q (s - split_of m) (e - split_of m) known p)
    (open_from_root h (s - split_of m) (e - split_of m) (n - split_of m) known node p)
    (open_from_root h 0 (n - split_of m) (m - split_of m) false prefix q))
part_right h sized s e n m known still node prefix z y p q one other two less above right recurse =
    let order = two.order in
    let within = two.within in
    let bounds = split_bounds m in
    let positive = bounds.positive in
    let more : 1 < n = omega arith in
    let wide : 1 < m = omega arith in
    let split = prefix_split n m two.grows above in
    let there : split_of n ≤ s = omega arith in
    let xs = open_inputs_from_root h s e n known node (y ∷ p) in
    let ys = open_inputs_from_root h 0 n m still prefix (z ∷ q) in
    let own = subst (λ (k : ℕ). IsStep h (s - k) (e - k) (n - k) known node p (root_right_of h y)
    (inputs_right y) one xs) split
    (step_right h s e n known node y p one more there order within two.first) in
    let step = beside_step h s e n m known still node prefix z (y ∷ p) q one other two less above in
    let begin : s ≡ split_of m + (s - split_of m) = omega arith in
    let end_is : e ≡ split_of m + (e - split_of m) = omega arith in
    let size : m ≡ split_of m + (m - split_of m) = omega arith in
    let some : 0 < e - split_of m = omega arith in
    let hashes : pair_hash h y own.below.root ≡ pair_hash h z step.below.subtree =
    ap (λ (o : Opened). o.root) own.is
    ∙ beside_meets h n m still prefix z q one other step two.meet in
    let subtree : own.below.subtree ≡ one.subtree = ap (λ (o : Opened). o.subtree) own.is in
    let root : pair_hash h z step.below.root ≡ other.root =
    ap (λ (o : Opened). o.root) step.is in
    subst (λ (o : Option Opened). JoinsTo h s e m known node one.subtree other.root xs ys
    (joined_right y z
    (joined_there h n m node prefix q (s - split_of m) (e - split_of m) known p) o
    (open_from_root h 0 (n - split_of m) (m - split_of m) false prefix q)))
    (sym own.gives)
    (subst (λ (o : Option Opened). JoinsTo h s e m known node one.subtree other.root xs ys
    (joined_right y z
    (joined_there h n m node prefix q (s - split_of m) (e - split_of m) known p)
    (Some own.below) o)) (sym step.gives)
    (tested (JoinsTo h s e m known node one.subtree other.root xs ys) h xs ys y own.below.root z
    step.below.subtree
    (joined_with z (joined_there h n m node prefix q (s - split_of m) (e - split_of m) known p))
    (Pair (pair_input y own.below.root) (pair_input z step.below.subtree))
    (separated_by_left y own.below.root z step.below.subtree (two.firsts.0 ∙ sym two.seconds.0))
    hashes
    (own.tops _ (first_in _ []))
    (step.tops _ (over_subtree_in z step.below))
    (λ same beside.
    raised h s e m (s - split_of m) (e - split_of m) (m - split_of m) known known node z one.subtree
    other.root (opened_at own.below.subtree step.below.root) (root_right_of h z) (inputs_right z)
    (open_inputs_from_root h (s - split_of m) (e - split_of m) (n - split_of m) known node p)
    (open_inputs_from_root h 0 (n - split_of m) (m - split_of m) false prefix q) xs ys two.seconds.0
    (λ r. open-right h s e m (split_of m) (s - split_of m) (e - split_of m) (m - split_of m) known
    node z r wide refl begin end_is size some)
    (λ r. open_inputs_right h s e m (split_of m) (s - split_of m) (e - split_of m) (m - split_of m)
    known node z r wide refl begin end_is size some)
    (ap (λ (a : Hash). opened_at a (pair_hash h z step.below.root)) subtree
    ∙ ap (opened_at one.subtree) root)
    (λ t top. inr (step.tops t (subst (Contains (inputs_over z (Some step.below)))
    (sym (only_in _ t top)) (over_root_in z step.below))))
    own.rest step.rest
    (joined_there h n m node prefix q (s - split_of m) (e - split_of m) known p)
    (recurse own.below step.below (record {
      order = omega arith;
      within = omega arith;
      grows = omega arith;
      firsts = two.firsts.1;
      seconds = two.seconds.1;
      first = own.gives;
      second = step.gives;
      meet = beside;
    })))
    (joins_pair h s e m known node one.subtree other.root xs ys
    (pair_input y own.below.root) (pair_input z step.below.subtree))))

-- the two strings at the root of the joined proof, where the subtree goes beyond the split
over_tops : (z y : Hash) (part beside : Opened) (xs ys : List Text) (t : Text) → y ≡ z
    → Contains xs (pair_input y part.subtree) → Contains ys (pair_input z beside.root)
    → Contains (inputs_over z (Some (opened_at part.subtree beside.root))) t
    → Contains xs t ⊎ Contains ys t
over_tops z y part beside xs ys t same own other top =
    ⊎_elim
    (λ (here : Contains (pair_input z beside.root ∷ []) t).
    inr (subst (Contains ys) (sym (only_in _ t here)) other))
    (λ (there : Contains (pair_input z part.subtree ∷ []) t).
    inl (subst (Contains xs)
    (sym (only_in _ t there ∙ ap (λ (a : Hash). pair_input a part.subtree) (sym same))) own))
    (Contains-append_cases (pair_input z beside.root ∷ []) (pair_input z part.subtree ∷ []) t top)

-- The subtree goes beyond the split.
pub part_over : (h : HashFunction) → IsSized h → (s e n m : ℕ) (known still : Bool)
    (node prefix z y : Hash) (p q : List Hash) (one other : Opened)
    → AreTwo h s e n m known still node prefix (y ∷ p) (z ∷ q) one other → n < m → split_of m < n
    → s < split_of m → split_of m < e → (0 < s) ⊎ (e < n)
    → ((part beside : Opened) → AreTwo h 0 (e - split_of m) (n - split_of m)
    (m - split_of m) false false node prefix p q part beside
    → TwoJoin h 0 (e - split_of m) (n - split_of m) (m - split_of m) false false node
    prefix p q part beside)
    → JoinsTo h s e m known node one.subtree other.root
    (open_inputs_from_root h s e n known node (y ∷ p))
    (open_inputs_from_root h 0 n m still prefix (z ∷ q))
    (joined_right y z
    (joined_there h n m node prefix q 0 (e - split_of m) false p)
    (open_from_root h 0 (e - split_of m) (n - split_of m) false node p)
    (open_from_root h 0 (n - split_of m) (m - split_of m) false prefix q))
part_over h sized s e n m known still node prefix z y p q one other two less above before past inner
    recurse =
    let order = two.order in
    let within = two.within in
    let more : 1 < n = omega arith in
    let wide : 1 < m = omega arith in
    let split = prefix_split n m two.grows above in
    let earlier : s < split_of n = omega arith in
    let beyond : split_of n < e = omega arith in
    let zeroth = begins_first h s e n known node y p one more earlier beyond two.first in
    let part = not_whole s e n zeroth inner in
    let xs = open_inputs_from_root h s e n known node (y ∷ p) in
    let ys = open_inputs_from_root h 0 n m still prefix (z ∷ q) in
    let own = subst (λ (k : ℕ). IsStep h 0 (e - k) (n - k) false node p (both_right_of h y)
    (inputs_over y) one xs) split
    (step_over h s e n known node y p one more zeroth beyond part two.first) in
    let step = beside_step h s e n m known still node prefix z (y ∷ p) q one other two less above in
    let end_is : e ≡ split_of m + (e - split_of m) = omega arith in
    let size : m ≡ split_of m + (m - split_of m) = omega arith in
    let some : 0 < e - split_of m = omega arith in
    let short : e < m = omega arith in
    let hashes : pair_hash h y own.below.root ≡ pair_hash h z step.below.subtree =
    ap (λ (o : Opened). o.root) own.is
    ∙ beside_meets h n m still prefix z q one other step two.meet in
    let subtree : pair_hash h y own.below.subtree ≡ one.subtree =
    ap (λ (o : Opened). o.subtree) own.is in
    let root : pair_hash h z step.below.root ≡ other.root =
    ap (λ (o : Opened). o.root) step.is in
    subst (λ (o : Option Opened). JoinsTo h s e m known node one.subtree other.root xs ys
    (joined_right y z (joined_there h n m node prefix q 0 (e - split_of m) false p) o
    (open_from_root h 0 (n - split_of m) (m - split_of m) false prefix q)))
    (sym own.gives)
    (subst (λ (o : Option Opened). JoinsTo h s e m known node one.subtree other.root xs ys
    (joined_right y z (joined_there h n m node prefix q 0 (e - split_of m) false p)
    (Some own.below) o)) (sym step.gives)
    (tested (JoinsTo h s e m known node one.subtree other.root xs ys) h xs ys y own.below.root z
    step.below.subtree
    (joined_with z (joined_there h n m node prefix q 0 (e - split_of m) false p))
    (Pair (pair_input y own.below.root) (pair_input z step.below.subtree))
    (separated_by_left y own.below.root z step.below.subtree (two.firsts.0 ∙ sym two.seconds.0))
    hashes
    (own.tops _ (over_root_in y own.below))
    (step.tops _ (over_subtree_in z step.below))
    (λ same beside.
    raised h s e m 0 (e - split_of m) (m - split_of m) known false node z one.subtree
    other.root (opened_at own.below.subtree step.below.root) (both_right_of h z) (inputs_over z)
    (open_inputs_from_root h 0 (e - split_of m) (n - split_of m) false node p)
    (open_inputs_from_root h 0 (n - split_of m) (m - split_of m) false prefix q) xs ys two.seconds.0
    (λ r. open-over h s e m (split_of m) (e - split_of m) (m - split_of m) known
    node z r wide refl zeroth end_is size some short)
    (λ r. open_inputs_over h s e m (split_of m) (e - split_of m) (m - split_of m)
    known node z r wide refl before end_is size some short)
    (ap (λ (a : Hash). opened_at (pair_hash h a own.below.subtree)
    (pair_hash h z step.below.root)) (sym same)
    ∙ ap (λ (a : Hash). opened_at a (pair_hash h z step.below.root)) subtree
    ∙ ap (opened_at one.subtree) root)
    (λ t top. over_tops z y own.below step.below xs ys t same
    (own.tops _ (over_subtree_in y own.below)) (step.tops _ (over_root_in z step.below)) top)
    own.rest step.rest
    (joined_there h n m node prefix q 0 (e - split_of m) false p)
    (recurse own.below step.below (record {
      order = omega arith;
      within = omega arith;
      grows = omega arith;
      firsts = two.firsts.1;
      seconds = two.seconds.1;
      first = own.gives;
      second = step.gives;
      meet = beside;
    })))
    (joins_pair h s e m known node one.subtree other.root xs ys
    (pair_input y own.below.root) (pair_input z step.below.subtree))))
