-- Two proofs of 32-byte hashes from the root down, and what they give together: where no entry of
-- the first lies after the second's split, or the subtree is all of them.
use Rattle.std.proofs.Common.{◌≡◌, ℕ, ◌+◌, ◌-◌, ◌<◌, ◌≤◌, ◌⊎◌, ⊎_elim, inl, inr, Bool, false, List}
use Rattle.std.proofs.Common.{◌∷◌, ◌++◌, length, Some, sym, ◌∙◌, ap, refl, subst, arith}
use Rattle.std.specs.Prelude.{Option, option_map}
use Rattle.std.specs.List.{Contains}
use Rattle.std.proofs.lemmas.List.Elements.{Contains-append_cases}
use Rattle.byte_formats.specs.Types.{Hash, HashFunction, Text}
use Rattle.tree_core.proofs.Powers.{split_bounds}
use Rattle.tree_core.specs.Split.{split_of}
use Rattle.tree_core.specs.Tree.{pair_hash}
use Rattle.tree_proofs.proofs.Opens.{open-left, open-over}
use Rattle.tree_proofs.specs.declared.outcome.Opened.{Opened}
use Rattle.tree_proofs.specs.Open.{both_right_of, open_from_root, opened_at, root_left_of}
use Rattle.collide.proofs.Compared.{collision_widened}
use Rattle.collide.proofs.Opening.{open_inputs_left, open_inputs_over}
use Rattle.collide.specs.Extraction.{IsCollision}
use Rattle.collide.specs.Inputs.{inputs_left, inputs_over, open_inputs_from_root}
use Rattle.quarrel_core.proofs.JoiningSteps.{joined-left, joined-same, joined-whole}
use Rattle.quarrel_core.proofs.Openings.{inputs_unknown, open_unknown, root_of_whole, step_left}
use Rattle.quarrel_core.specs.Sizes.{AreFullHashes}
use Rattle.quarrel_core.specs.Joining.{joined_from_root, joined_with}
use Rattle.quarrel_core.specs.declared.joined.Joined.{Joined}
use Rattle.quarrel_core.specs.declared.joined.Joined.TheVariants.{Neither, Pair, Proof}

-- Two proofs from the root down: of a subtree in n entries, and of these n in m.
pub record AreTwo (h : HashFunction) (s e n m : ℕ) (known still : Bool) (node prefix : Hash)
    (p q : List Hash) (one other : Opened) : Type 0 where
  pub order : s < e
  pub within : e ≤ n
  pub grows : n ≤ m
  pub firsts : AreFullHashes p
  pub seconds : AreFullHashes q
  pub first : open_from_root h s e n known node p ≡ Some one
  pub second : open_from_root h 0 n m still prefix q ≡ Some other
  pub meet : one.root ≡ other.subtree

-- A proof from the root down that opens so, and hashes only these strings.
pub record IsJoinedTo (h : HashFunction) (s e m : ℕ) (known : Bool) (node subtree root : Hash)
    (firsts seconds : List Text) (r : List Hash) : Type 0 where
  pub opens : open_from_root h s e m known node r ≡ Some (opened_at subtree root)
  pub inputs : (t : Text) → Contains (open_inputs_from_root h s e m known node r) t
      → Contains firsts t ⊎ Contains seconds t
  pub whole : AreFullHashes r

unfoldable pub JoinsTo : HashFunction → ℕ → ℕ → ℕ → Bool → Hash → Hash → Hash → List Text
    → List Text → Joined → Type 0
JoinsTo h s e m known node subtree root firsts seconds (Proof r) =
    IsJoinedTo h s e m known node subtree root firsts seconds r
JoinsTo h s e m known node subtree root firsts seconds (Pair x y) = IsCollision h firsts seconds x y
JoinsTo h s e m known node subtree root firsts seconds Neither = ⊥

-- What two such proofs give.
abbrev pub TwoJoin : HashFunction → ℕ → ℕ → ℕ → ℕ → Bool → Bool → Hash → Hash → List Hash
    → List Hash → Opened → Opened → Type 0
TwoJoin h s e n m known still node prefix p q one other =
    JoinsTo h s e m known node one.subtree other.root (open_inputs_from_root h s e n known node p)
    (open_inputs_from_root h 0 n m still prefix q)
    (joined_from_root h s e n m known node prefix p q)

pub joins_pair : (h : HashFunction) (s e m : ℕ) (known : Bool) (node subtree root : Hash)
    (firsts seconds : List Text) (x y : Text) → IsCollision h firsts seconds x y
    → JoinsTo h s e m known node subtree root firsts seconds (Pair x y)
unfolding JoinsTo
joins_pair h s e m known node subtree root firsts seconds x y is = is

pub joins_proof : (h : HashFunction) (s e m : ℕ) (known : Bool) (node subtree root : Hash)
    (firsts seconds : List Text) (r : List Hash)
    → IsJoinedTo h s e m known node subtree root firsts seconds r
    → JoinsTo h s e m known node subtree root firsts seconds (Proof r)
unfolding JoinsTo
joins_proof h s e m known node subtree root firsts seconds r is = is

-- A joined proof of a part, with one hash more: how that opens, and which strings it hashes in
-- addition.
pub raised : (h : HashFunction) (s e m from to size : ℕ) (known still : Bool)
    (node z subtree root : Hash) (below : Opened) (f : Opened → Opened)
    (top : Option Opened → List Text) (vs ws xs ys : List Text) → length z ≡ 32
    → ((r : List Hash) → open_from_root h s e m known node (z ∷ r)
    ≡ option_map f (open_from_root h from to size still node r))
    → ((r : List Hash) → open_inputs_from_root h s e m known node (z ∷ r)
    ≡ top (open_from_root h from to size still node r)
    ++ open_inputs_from_root h from to size still node r)
    → f below ≡ opened_at subtree root
    → ((t : Text) → Contains (top (Some below)) t → Contains xs t ⊎ Contains ys t)
    → ((t : Text) → Contains vs t → Contains xs t) → ((t : Text) → Contains ws t → Contains ys t)
    → (j : Joined) → JoinsTo h from to size still node below.subtree below.root vs ws j
    → JoinsTo h s e m known node subtree root xs ys (joined_with z j)
unfolding JoinsTo
raised h s e m from to size known still node z subtree root below f top vs ws xs ys z_size opens
    texts same tops firsts seconds (Proof r) is =
    let rest = open_inputs_from_root h from to size still node r in
    let part = open_from_root h from to size still node r in
    record {
      opens = opens r ∙ ap (option_map f) is.opens ∙ ap (λ (o : Opened). Some o) same;
      inputs = λ t within.
          ⊎_elim
          (λ (top_in : Contains (top part) t).
          tops t (subst (λ o. Contains (top o) t) is.opens top_in))
          (λ (rest_in : Contains rest t).
          ⊎_elim
          (λ (v : Contains vs t). inl (firsts t v))
          (λ (w : Contains ws t). inr (seconds t w))
          (is.inputs t rest_in))
          (Contains-append_cases (top part) rest t
          (subst (λ all. Contains all t) (texts r) within));
      whole = (z_size, is.whole);
    }
raised h s e m from to size known still node z subtree root below f top vs ws xs ys z_size opens
    texts same tops firsts seconds (Pair x y) is =
    collision_widened h vs ws xs ys x y (firsts x) (seconds y) is
raised h s e m from to size known still node z subtree root below f top vs ws xs ys z_size opens
    texts same tops firsts seconds Neither is = is

-- The second proof is of all its entries.
pub same_joins : (h : HashFunction) (s e n m : ℕ) (known still : Bool) (node prefix : Hash)
    (p q : List Hash) (one other : Opened)
    → AreTwo h s e n m known still node prefix p q one other → n ≡ m
    → TwoJoin h s e n m known still node prefix p q one other
same_joins h s e n m known still node prefix p q one other two same =
    let root : one.root ≡ other.root =
    two.meet ∙ root_of_whole h 0 n m still prefix q other refl same two.second in
    subst (JoinsTo h s e m known node one.subtree other.root
    (open_inputs_from_root h s e n known node p) (open_inputs_from_root h 0 n m still prefix q))
    (sym (joined-same h s e n m known node prefix p q same))
    (joins_proof h s e m known node one.subtree other.root
    (open_inputs_from_root h s e n known node p) (open_inputs_from_root h 0 n m still prefix q) p
    (record {
      opens = ap (λ (k : ℕ). open_from_root h s e k known node p) (sym same) ∙ two.first
          ∙ ap (λ (r : Hash). Some (opened_at one.subtree r)) root;
      inputs = λ t within.
          inl (subst (λ (k : ℕ). Contains (open_inputs_from_root h s e k known node p) t) (sym same)
          within);
      whole = two.firsts;
    }))

-- All of the first proof's entries lie left of the second's split.
pub left_joins : (h : HashFunction) (s e n m : ℕ) (known still : Bool) (node prefix z : Hash)
    (p q : List Hash) (one other : Opened)
    → AreTwo h s e n m known still node prefix p (z ∷ q) one other → n < m → n ≤ split_of m
    → ((below : Opened) → AreTwo h s e n (split_of m) known still node prefix p q one below
    → TwoJoin h s e n (split_of m) known still node prefix p q one below)
    → TwoJoin h s e n m known still node prefix p (z ∷ q) one other
left_joins h s e n m known still node prefix z p q one other two less left recurse =
    let order = two.order in
    let within = two.within in
    let more : 1 < m = omega arith in
    let inside : e ≤ split_of m = omega arith in
    let xs = open_inputs_from_root h s e n known node p in
    let ys = open_inputs_from_root h 0 n m still prefix (z ∷ q) in
    let step = step_left h 0 n m still prefix z q other more left two.second in
    let sub : step.below.subtree ≡ other.subtree = ap (λ (o : Opened). o.subtree) step.is in
    let root : pair_hash h step.below.root z ≡ other.root =
    ap (λ (o : Opened). o.root) step.is in
    let joined = recurse step.below (record {
      order = two.order;
      within = two.within;
      grows = left;
      firsts = two.firsts;
      seconds = two.seconds.1;
      first = two.first;
      second = step.gives;
      meet = two.meet ∙ sym sub;
    }) in
    subst (JoinsTo h s e m known node one.subtree other.root xs ys)
    (sym (joined-left h s e n m known node prefix z p q less left))
    (raised h s e m s e (split_of m) known known node z one.subtree other.root
    (opened_at one.subtree step.below.root) (root_left_of h z) (inputs_left z) xs
    (open_inputs_from_root h 0 n (split_of m) still prefix q) xs ys two.seconds.0
    (λ r. open-left h s e m (split_of m) known node z r more refl inside)
    (λ r. open_inputs_left h s e m (split_of m) known node z r more refl inside)
    (ap (opened_at one.subtree) root)
    (λ t top. inr (step.tops t top))
    (λ t within. within) step.rest
    (joined_from_root h s e n (split_of m) known node prefix p q) joined)

-- The subtree is all of the first proof's entries.
pub whole_joins : (h : HashFunction) (s e n m : ℕ) (known still : Bool) (node prefix z : Hash)
    (p q : List Hash) (one other : Opened)
    → AreTwo h s e n m known still node prefix p (z ∷ q) one other → n < m → split_of m < n
    → s ≡ 0 → e ≡ n
    → TwoJoin h s e n m known still node prefix p (z ∷ q) one other
whole_joins h s e n m known still node prefix z p q one other two less above first last =
    let bounds = split_bounds m in
    let positive = bounds.positive in
    let more : 1 < m = omega arith in
    let k = split_of m in
    let xs = open_inputs_from_root h s e n known node p in
    let ys = open_inputs_from_root h 0 n m still prefix (z ∷ q) in
    let zeroth : s < split_of m = omega arith in
    let begin : 0 < split_of m = omega arith in
    let end_is : e ≡ split_of m + (n - split_of m) = omega arith in
    let n_is : n ≡ split_of m + (n - split_of m) = omega arith in
    let m_is : m ≡ split_of m + (m - split_of m) = omega arith in
    let some : 0 < n - split_of m = omega arith in
    let part : e < m = omega arith in
    let subtree : one.subtree ≡ other.subtree =
    root_of_whole h s e n known node p one first last two.first ∙ two.meet in
    let openings : open_from_root h s e m known node (z ∷ q)
    ≡ open_from_root h 0 n m still prefix (z ∷ q) =
    open-over h s e m (split_of m) (n - split_of m) (m - split_of m) known node z q more refl first
    end_is m_is some part
    ∙ ap (option_map (both_right_of h z))
    (open_unknown h 0 (n - split_of m) (m - split_of m) node prefix q)
    ∙ sym (open-over h 0 n m (split_of m) (n - split_of m) (m - split_of m) still prefix z q more
    refl refl n_is m_is some less) in
    let texts : open_inputs_from_root h s e m known node (z ∷ q) ≡ ys =
    open_inputs_over h s e m (split_of m) (n - split_of m) (m - split_of m) known node z q more refl
    zeroth end_is m_is some part
    ∙ ap (λ (o : Option Opened). inputs_over z o
    ++ open_inputs_from_root h 0 (n - split_of m) (m - split_of m) false node q)
    (open_unknown h 0 (n - split_of m) (m - split_of m) node prefix q)
    ∙ ap (λ (all : List Text). inputs_over z
    (open_from_root h 0 (n - split_of m) (m - split_of m) false prefix q) ++ all)
    (inputs_unknown h 0 (n - split_of m) (m - split_of m) node prefix q)
    ∙ sym (open_inputs_over h 0 n m (split_of m) (n - split_of m) (m - split_of m) still prefix z q
    more refl begin n_is m_is some less) in
    subst (JoinsTo h s e m known node one.subtree other.root xs ys)
    (sym (joined-whole h s e n m known node prefix z p q less above first last))
    (joins_proof h s e m known node one.subtree other.root xs ys (z ∷ q)
    (record {
      opens = openings ∙ two.second
          ∙ ap (λ (a : Hash). Some (opened_at a other.root)) (sym subtree);
      inputs = λ t within. inr (subst (λ all. Contains all t) texts within);
      whole = two.seconds;
    }))
