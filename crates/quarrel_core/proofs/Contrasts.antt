-- Two proofs of one interval with one root: their subtrees are the same, or there are two strings
-- with one hash.
use Rattle.std.proofs.Common.{◌≡◌, ℕ, ◌-◌, ◌<◌, ◌≤◌, ◌⊎◌, inl, inr, Bool, true, false, eqb, List}
use Rattle.std.proofs.Common.{[], ◌∷◌, Some, sym, ◌∙◌, ap, refl, subst, arith}
use Rattle.std.specs.Prelude.{Option, reverse}
use Rattle.std.specs.List.{Contains}
use Rattle.std.proofs.lemmas.Bool.{and_from, cond-false, cond-true, eq-eqb, le-leb, lt-leb}
use Rattle.byte_formats.specs.Types.{Hash, HashFunction, Text}
use Rattle.tree_core.proofs.Powers.{split_bounds}
use Rattle.tree_core.specs.Split.{split_of}
use Rattle.tree_core.specs.Tree.{pair_hash}
use Rattle.tree_proofs.proofs.Fulls.{some_in}
use Rattle.tree_proofs.proofs.Made.{cases_place, other-whole}
use Rattle.tree_proofs.specs.Consistency.{Checks}
use Rattle.tree_proofs.specs.declared.outcome.Opened.{Opened}
use Rattle.tree_proofs.specs.Open.{both_right_of, open_from_root, open_of, opened_at}
use Rattle.tree_proofs.specs.Open.{root_right_of}
use Rattle.collide.proofs.Compared.{collision_widened}
use Rattle.collide.proofs.Extracting.{all_reversed}
use Rattle.collide.proofs.Hashed.{first_in}
use Rattle.collide.specs.Extraction.{Extracts, HasCollision, IsCollision}
use Rattle.collide.specs.Inputs.{inputs_over, inputs_right, open_inputs_from_root}
use Rattle.collide.specs.Inputs.{open_inputs_of, pair_input}
use Rattle.collide.specs.declared.finding.Finding.{Finding}
use Rattle.collide.specs.declared.finding.Finding.TheVariants.{Pair, Same}
use Rattle.quarrel_core.proofs.Levels.{tested, separated_by_left, separated_by_right}
use Rattle.quarrel_core.proofs.Openings.{IsStep, begins_first, not_whole, root_of_whole, step_left}
use Rattle.quarrel_core.proofs.Openings.{over_root_in, step_over, step_right, whole_of_none}
use Rattle.quarrel_core.specs.Sizes.{AreFullHashes}
use Rattle.quarrel_core.specs.Contrasting.{contrast_after, contrast_from_root, contrast_left}
use Rattle.quarrel_core.specs.Laws.{OneSubtree}

-- The cases of contrasting.

pub contrast-first_short : (h : HashFunction) (s e n : ℕ) (known : Bool) (node other : Hash)
    (q : List Hash) → contrast_from_root h s e n known node other [] q ≡ Same
unfolding contrast_from_root
contrast-first_short h s e n known node other q = refl

pub contrast-second_short : (h : HashFunction) (s e n : ℕ) (known : Bool) (node other y : Hash)
    (p : List Hash) → contrast_from_root h s e n known node other (y ∷ p) [] ≡ Same
unfolding contrast_from_root
contrast-second_short h s e n known node other y p = refl

pub contrast-whole : (h : HashFunction) (s e n : ℕ) (known : Bool) (node other y z : Hash)
    (p q : List Hash) → s ≡ 0 → e ≡ n
    → contrast_from_root h s e n known node other (y ∷ p) (z ∷ q) ≡ Same
unfolding contrast_from_root
contrast-whole h s e n known node other y z p q first last =
    cond-true _ _ _ (and_from (eqb s 0) (eqb e n) (eq-eqb s 0 first) (eq-eqb e n last))

pub contrast-left : (h : HashFunction) (s e n k : ℕ) (known : Bool) (node other y z : Hash)
    (p q : List Hash) → split_of n ≡ k → (0 < s) ⊎ (e < n) → e ≤ k
    → contrast_from_root h s e n known node other (y ∷ p) (z ∷ q)
    ≡ contrast_left y z (contrast_from_root h s e k known node other p q)
    (open_from_root h s e k known node p) (open_from_root h s e k known other q)
unfolding contrast_from_root
contrast-left h s e n k known node other y z p q is inner left =
    cond-false _ _ _ (other-whole s e n inner)
    ∙ cond-true _ _ _ (le-leb e (split_of n) (omega arith))
    ∙ ap (λ (k : ℕ). contrast_left y z (contrast_from_root h s e k known node other p q)
    (open_from_root h s e k known node p) (open_from_root h s e k known other q)) is

pub contrast-right : (h : HashFunction) (s e n k : ℕ) (known : Bool) (node other y z : Hash)
    (p q : List Hash) → split_of n ≡ k → (0 < s) ⊎ (e < n) → k < e → k ≤ s
    → contrast_from_root h s e n known node other (y ∷ p) (z ∷ q)
    ≡ contrast_after y z (contrast_from_root h (s - k) (e - k) (n - k) known node other p q)
    (open_from_root h (s - k) (e - k) (n - k) known node p)
    (open_from_root h (s - k) (e - k) (n - k) known other q)
unfolding contrast_from_root
contrast-right h s e n k known node other y z p q is inner past right =
    cond-false _ _ _ (other-whole s e n inner)
    ∙ cond-false _ _ _ (lt-leb e (split_of n) (omega arith))
    ∙ cond-true _ _ _ (le-leb (split_of n) s (omega arith))
    ∙ ap (λ (k : ℕ). contrast_after y z
    (contrast_from_root h (s - k) (e - k) (n - k) known node other p q)
    (open_from_root h (s - k) (e - k) (n - k) known node p)
    (open_from_root h (s - k) (e - k) (n - k) known other q)) is

pub contrast-over : (h : HashFunction) (s e n k : ℕ) (known : Bool) (node other y z : Hash)
    (p q : List Hash) → split_of n ≡ k → (0 < s) ⊎ (e < n) → k < e → s < k
    → contrast_from_root h s e n known node other (y ∷ p) (z ∷ q)
    ≡ contrast_after y z (contrast_from_root h 0 (e - k) (n - k) false node other p q)
    (open_from_root h 0 (e - k) (n - k) false node p)
    (open_from_root h 0 (e - k) (n - k) false other q)
unfolding contrast_from_root
contrast-over h s e n k known node other y z p q is inner past before =
    cond-false _ _ _ (other-whole s e n inner)
    ∙ cond-false _ _ _ (lt-leb e (split_of n) (omega arith))
    ∙ cond-false _ _ _ (lt-leb (split_of n) s (omega arith))
    ∙ ap (λ (k : ℕ). contrast_after y z
    (contrast_from_root h 0 (e - k) (n - k) false node other p q)
    (open_from_root h 0 (e - k) (n - k) false node p)
    (open_from_root h 0 (e - k) (n - k) false other q)) is

-- What is found.

pub record AreOne (h : HashFunction) (s e n : ℕ) (known : Bool) (node other : Hash)
    (p q : List Hash) (one two : Opened) : Type 0 where
  pub order : s < e
  pub within : e ≤ n
  pub firsts : AreFullHashes p
  pub seconds : AreFullHashes q
  pub first : open_from_root h s e n known node p ≡ Some one
  pub second : open_from_root h s e n known other q ≡ Some two
  pub meet : one.root ≡ two.root

unfoldable pub Finds : HashFunction → Hash → Hash → List Text → List Text → Finding → Type 0
Finds h a b firsts seconds Same = a ≡ b
Finds h a b firsts seconds (Pair x y) = IsCollision h firsts seconds x y

finds_same : (h : HashFunction) (a b : Hash) (firsts seconds : List Text) → a ≡ b
    → Finds h a b firsts seconds Same
unfolding Finds
finds_same h a b firsts seconds same = same

finds_pair : (h : HashFunction) (a b : Hash) (firsts seconds : List Text) (x y : Text)
    → IsCollision h firsts seconds x y → Finds h a b firsts seconds (Pair x y)
unfolding Finds
finds_pair h a b firsts seconds x y is = is

finds_wider : (h : HashFunction) (a b c d : Hash) (vs ws xs ys : List Text) → (a ≡ b → c ≡ d)
    → ((t : Text) → Contains vs t → Contains xs t) → ((t : Text) → Contains ws t → Contains ys t)
    → (finding : Finding) → Finds h a b vs ws finding → Finds h c d xs ys finding
unfolding Finds
finds_wider h a b c d vs ws xs ys so firsts seconds Same is = so is
finds_wider h a b c d vs ws xs ys so firsts seconds (Pair x y) is =
    collision_widened h vs ws xs ys x y (firsts x) (seconds y) is

abbrev pub OneFinds : HashFunction → ℕ → ℕ → ℕ → Bool → Hash → Hash → List Hash → List Hash
    → Opened → Opened → Type 0
OneFinds h s e n known node other p q one two =
    Finds h one.subtree two.subtree (open_inputs_from_root h s e n known node p)
    (open_inputs_from_root h s e n known other q) (contrast_from_root h s e n known node other p q)

-- the subtree is the whole list
whole_same : (h : HashFunction) (s e n : ℕ) (known : Bool) (node other : Hash) (p q : List Hash)
    (one two : Opened) → AreOne h s e n known node other p q one two → s ≡ 0 → e ≡ n
    → one.subtree ≡ two.subtree
whole_same h s e n known node other p q one two are first last =
    root_of_whole h s e n known node p one first last are.first ∙ are.meet
    ∙ sym (root_of_whole h s e n known other q two first last are.second)

left_finds : (h : HashFunction) (s e n : ℕ) (known : Bool) (node other y z : Hash)
    (p q : List Hash) (one two : Opened)
    → AreOne h s e n known node other (y ∷ p) (z ∷ q) one two → 1 < n → e ≤ split_of n
    → ((a b : Opened) → AreOne h s e (split_of n) known node other p q a b
    → OneFinds h s e (split_of n) known node other p q a b)
    → OneFinds h s e n known node other (y ∷ p) (z ∷ q) one two
left_finds h s e n known node other y z p q one two are more left recurse =
    let k = split_of n in
    let bounds = split_bounds n in
    let inner : (0 < s) ⊎ (e < n) = inr (omega arith) in
    let xs = open_inputs_from_root h s e n known node (y ∷ p) in
    let ys = open_inputs_from_root h s e n known other (z ∷ q) in
    let own = step_left h s e n known node y p one more left are.first in
    let its = step_left h s e n known other z q two more left are.second in
    let hashes : pair_hash h own.below.root y ≡ pair_hash h its.below.root z =
    ap (λ (o : Opened). o.root) own.is ∙ are.meet ∙ sym (ap (λ (o : Opened). o.root) its.is) in
    let rest = contrast_from_root h s e k known node other p q in
    subst (Finds h one.subtree two.subtree xs ys)
    (sym (contrast-left h s e n k known node other y z p q refl inner left
    ∙ ap (λ (o : Option Opened). contrast_left y z rest o (open_from_root h s e k known other q))
    own.gives
    ∙ ap (contrast_left y z rest (Some own.below)) its.gives))
    (tested (Finds h one.subtree two.subtree xs ys) h xs ys own.below.root y its.below.root z rest
    (Pair (pair_input own.below.root y) (pair_input its.below.root z))
    (separated_by_right own.below.root y its.below.root z (are.firsts.0 ∙ sym are.seconds.0)) hashes
    (own.tops _ (first_in _ [])) (its.tops _ (first_in _ []))
    (λ same beside.
    finds_wider h own.below.subtree its.below.subtree one.subtree two.subtree
    (open_inputs_from_root h s e k known node p) (open_inputs_from_root h s e k known other q) xs ys
    (λ agree. sym (ap (λ (o : Opened). o.subtree) own.is) ∙ agree
    ∙ ap (λ (o : Opened). o.subtree) its.is)
    own.rest its.rest rest
    (recurse own.below its.below (record {
      order = are.order;
      within = left;
      firsts = are.firsts.1;
      seconds = are.seconds.1;
      first = own.gives;
      second = its.gives;
      meet = same;
    })))
    (finds_pair h one.subtree two.subtree xs ys _ _))

-- Both proofs hash the node by what they gave of its right part.
after_finds : (h : HashFunction) (from to size : ℕ) (still : Bool) (node other y z : Hash)
    (p q : List Hash) (f g : Opened → Opened) (top more : Option Opened → List Text)
    (one two : Opened) (xs ys : List Text)
    → AreFullHashes (y ∷ p) → AreFullHashes (z ∷ q) → from < to
    → to ≤ size → one.root ≡ two.root
    → (own : IsStep h from to size still node p f top one xs)
    → (its : IsStep h from to size still other q g more two ys)
    → pair_hash h y own.below.root ≡ one.root → pair_hash h z its.below.root ≡ two.root
    → Contains xs (pair_input y own.below.root) → Contains ys (pair_input z its.below.root)
    → (y ≡ z → own.below.subtree ≡ its.below.subtree → one.subtree ≡ two.subtree)
    → ((a b : Opened) → AreOne h from to size still node other p q a b
    → OneFinds h from to size still node other p q a b)
    → Finds h one.subtree two.subtree xs ys
    (contrast_after y z (contrast_from_root h from to size still node other p q)
    (open_from_root h from to size still node p) (open_from_root h from to size still other q))
after_finds h from to size still node other y z p q f g top more one two xs ys firsts seconds order
    within meet own its own_root its_root own_in its_in so recurse =
    let rest = contrast_from_root h from to size still node other p q in
    subst (Finds h one.subtree two.subtree xs ys)
    (sym (ap (λ (o : Option Opened). contrast_after y z rest o
    (open_from_root h from to size still other q)) own.gives
    ∙ ap (contrast_after y z rest (Some own.below)) its.gives))
    (tested (Finds h one.subtree two.subtree xs ys) h xs ys y own.below.root z its.below.root rest
    (Pair (pair_input y own.below.root) (pair_input z its.below.root))
    (separated_by_left y own.below.root z its.below.root (firsts.0 ∙ sym seconds.0))
    (own_root ∙ meet ∙ sym its_root) own_in its_in
    (λ beside same.
    finds_wider h own.below.subtree its.below.subtree one.subtree two.subtree
    (open_inputs_from_root h from to size still node p)
    (open_inputs_from_root h from to size still other q) xs ys (so beside) own.rest its.rest rest
    (recurse own.below its.below (record {
      order = order;
      within = within;
      firsts = firsts.1;
      seconds = seconds.1;
      first = own.gives;
      second = its.gives;
      meet = same;
    })))
    (finds_pair h one.subtree two.subtree xs ys _ _))

right_finds : (h : HashFunction) (s e n : ℕ) (known : Bool) (node other y z : Hash)
    (p q : List Hash) (one two : Opened)
    → AreOne h s e n known node other (y ∷ p) (z ∷ q) one two → 1 < n → split_of n ≤ s
    → ((a b : Opened)
    → AreOne h (s - split_of n) (e - split_of n) (n - split_of n) known node other p q a b
    → OneFinds h (s - split_of n) (e - split_of n) (n - split_of n) known node other p q a b)
    → OneFinds h s e n known node other (y ∷ p) (z ∷ q) one two
right_finds h s e n known node other y z p q one two are more right recurse =
    let bounds = split_bounds n in
    let positive = bounds.positive in
    let order = are.order in
    let within = are.within in
    let inner : (0 < s) ⊎ (e < n) = inl (omega arith) in
    let past : split_of n < e = omega arith in
    let xs = open_inputs_from_root h s e n known node (y ∷ p) in
    let ys = open_inputs_from_root h s e n known other (z ∷ q) in
    let own = step_right h s e n known node y p one more right order within are.first in
    let its = step_right h s e n known other z q two more right order within are.second in
    subst (Finds h one.subtree two.subtree xs ys)
    (sym (contrast-right h s e n (split_of n) known node other y z p q refl inner past right))
    (after_finds h (s - split_of n) (e - split_of n) (n - split_of n) known node other y z p q
    (root_right_of h y) (root_right_of h z) (inputs_right y) (inputs_right z) one two xs ys
    are.firsts are.seconds (omega arith) (omega arith) are.meet own its
    (ap (λ (o : Opened). o.root) own.is) (ap (λ (o : Opened). o.root) its.is)
    (own.tops _ (first_in _ [])) (its.tops _ (first_in _ []))
    (λ beside agree. sym (ap (λ (o : Opened). o.subtree) own.is) ∙ agree
    ∙ ap (λ (o : Opened). o.subtree) its.is)
    recurse)

over_finds : (h : HashFunction) (s e n : ℕ) (known : Bool) (node other y z : Hash)
    (p q : List Hash) (one two : Opened)
    → AreOne h s e n known node other (y ∷ p) (z ∷ q) one two → 1 < n → (0 < s) ⊎ (e < n)
    → s < split_of n → split_of n < e
    → ((a b : Opened)
    → AreOne h 0 (e - split_of n) (n - split_of n) false node other p q a b
    → OneFinds h 0 (e - split_of n) (n - split_of n) false node other p q a b)
    → OneFinds h s e n known node other (y ∷ p) (z ∷ q) one two
over_finds h s e n known node other y z p q one two are more inner before past recurse =
    let within = are.within in
    let zeroth = begins_first h s e n known node y p one more before past are.first in
    let part = not_whole s e n zeroth inner in
    let xs = open_inputs_from_root h s e n known node (y ∷ p) in
    let ys = open_inputs_from_root h s e n known other (z ∷ q) in
    let own = step_over h s e n known node y p one more zeroth past part are.first in
    let its = step_over h s e n known other z q two more zeroth past part are.second in
    subst (Finds h one.subtree two.subtree xs ys)
    (sym (contrast-over h s e n (split_of n) known node other y z p q refl inner past before))
    (after_finds h 0 (e - split_of n) (n - split_of n) false node other y z p q
    (both_right_of h y) (both_right_of h z) (inputs_over y) (inputs_over z) one two xs ys
    are.firsts are.seconds (omega arith) (omega arith) are.meet own its
    (ap (λ (o : Opened). o.root) own.is) (ap (λ (o : Opened). o.root) its.is)
    (own.tops _ (over_root_in y own.below)) (its.tops _ (over_root_in z its.below))
    (λ beside agree. sym (ap (λ (o : Opened). o.subtree) own.is)
    ∙ ap (λ (a : Hash). pair_hash h a own.below.subtree) beside ∙ ap (pair_hash h z) agree
    ∙ ap (λ (o : Opened). o.subtree) its.is)
    recurse)

pub contrasts : (p : List Hash) (h : HashFunction) (q : List Hash) (s e n : ℕ) (known : Bool)
    (node other : Hash) (one two : Opened) → AreOne h s e n known node other p q one two
    → OneFinds h s e n known node other p q one two
contrasts [] h q s e n known node other one two are =
    let is = whole_of_none h s e n known node one are.order are.within are.first in
    subst (Finds h one.subtree two.subtree (open_inputs_from_root h s e n known node [])
    (open_inputs_from_root h s e n known other q))
    (sym (contrast-first_short h s e n known node other q))
    (finds_same h one.subtree two.subtree _ _
    (whole_same h s e n known node other [] q one two are is.0 is.1))
contrasts (y ∷ p) h [] s e n known node other one two are =
    let is = whole_of_none h s e n known other two are.order are.within are.second in
    subst (Finds h one.subtree two.subtree (open_inputs_from_root h s e n known node (y ∷ p))
    (open_inputs_from_root h s e n known other []))
    (sym (contrast-second_short h s e n known node other y p))
    (finds_same h one.subtree two.subtree _ _
    (whole_same h s e n known node other (y ∷ p) [] one two are is.0 is.1))
contrasts (y ∷ p) h (z ∷ q) s e n known node other one two are =
    cases_place s e n are.order are.within
    (λ first last.
    subst (Finds h one.subtree two.subtree (open_inputs_from_root h s e n known node (y ∷ p))
    (open_inputs_from_root h s e n known other (z ∷ q)))
    (sym (contrast-whole h s e n known node other y z p q first last))
    (finds_same h one.subtree two.subtree _ _
    (whole_same h s e n known node other (y ∷ p) (z ∷ q) one two are first last)))
    (λ more left.
    left_finds h s e n known node other y z p q one two are more left
    (λ a b. contrasts p h q s e (split_of n) known node other a b))
    (λ more right.
    right_finds h s e n known node other y z p q one two are more right
    (λ a b. contrasts p h q (s - split_of n) (e - split_of n) (n - split_of n) known node other a
    b))
    (λ more inner before past.
    over_finds h s e n known node other y z p q one two are more inner before past
    (λ a b. contrasts p h q 0 (e - split_of n) (n - split_of n) false node other a b))

-- The same of proofs as they are written.
pub contrasts_of : (h : HashFunction) (s e n : ℕ) (node other root : Hash)
    (first second : List Hash) → s < e → e ≤ n → AreFullHashes first → AreFullHashes second
    → open_of h s e n true node first ≡ Some (opened_at node root)
    → open_of h s e n true other second ≡ Some (opened_at other root)
    → Finds h node other (open_inputs_of h s e n true node first)
    (open_inputs_of h s e n true other second)
    (contrast_from_root h s e n true node other (reverse first) (reverse second))
unfolding open_of open_inputs_of
contrasts_of h s e n node other root first second order within firsts seconds one two =
    contrasts (reverse first) h (reverse second) s e n true node other (opened_at node root)
    (opened_at other root) (record {
      order = order;
      within = within;
      firsts = all_reversed first firsts;
      seconds = all_reversed second seconds;
      first = one;
      second = two;
      meet = refl;
    })

-- what is found of two hashes that differ
pub extracts_found : (h : HashFunction) (s e n : ℕ) (node other root : Hash)
    (first second : List Hash) (found : Finding) → Checks h s e n node root first
    → Checks h s e n other root second → AreFullHashes first → AreFullHashes second
    → (node ≡ other → ⊥)
    → found ≡ contrast_from_root h s e n true node other (reverse first) (reverse second)
    → Extracts h (node ≡ other) (open_inputs_of h s e n true node first)
    (open_inputs_of h s e n true other second) found
unfolding Finds
extracts_found h s e n node other root first second found one two firsts seconds differ is =
    by found (subst (Finds h node other (open_inputs_of h s e n true node first)
    (open_inputs_of h s e n true other second)) (sym is)
    (contrasts_of h s e n node other root first second (some_in s e one.valid) one.within firsts
    seconds one.opens two.opens))
  where
    by : (f : Finding) → Finds h node other (open_inputs_of h s e n true node first)
        (open_inputs_of h s e n true other second) f
        → Extracts h (node ≡ other) (open_inputs_of h s e n true node first)
        (open_inputs_of h s e n true other second) f
    by Same same = same
    by (Pair x y) collides = (differ, collides)

found_or_same : (h : HashFunction) (a b : Hash) (xs ys : List Text) (finding : Finding)
    → Finds h a b xs ys finding → (a ≡ b) ⊎ HasCollision h xs ys
unfolding Finds
found_or_same h a b xs ys Same is = inl is
found_or_same h a b xs ys (Pair x y) is = inr (x, (y, is))

pub OneSubtree_always : (h : HashFunction) → OneSubtree h
OneSubtree_always h start end size node other root first second firsts seconds one two =
    found_or_same h node other (open_inputs_of h start end size true node first)
    (open_inputs_of h start end size true other second)
    (contrast_from_root h start end size true node other (reverse first) (reverse second))
    (contrasts_of h start end size node other root first second (some_in start end one.valid)
    one.within firsts seconds one.opens two.opens)
