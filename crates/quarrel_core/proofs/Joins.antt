-- What two proofs of 32-byte hashes give together: a proof that opens to the subtree of the first
-- and the root of the second, or two strings with one hash.
use Rattle.std.proofs.Common.{◌≡◌, ℕ, ◌-◌, ◌<◌, ◌≤◌, ◌⊎◌, ⊎_elim, inl, inr, Bool, true, false, List}
use Rattle.std.proofs.Common.{[], ◌∷◌, Some, sym, ◌∙◌, ap, refl, subst, arith}
use Rattle.std.specs.Prelude.{Option, reverse}
use Rattle.std.specs.List.{Contains}
use Rattle.std.proofs.lemmas.Bool.{cases_lt}
use Rattle.std.proofs.lemmas.List.{reverse-reverse}
use Rattle.byte_formats.specs.Types.{Hash, HashFunction, Text}
use Rattle.tree_core.proofs.Powers.{split_bounds}
use Rattle.tree_core.specs.Split.{split_of}
use Rattle.tree_proofs.proofs.Fulls.{some_in}
use Rattle.tree_proofs.proofs.Made.{cases_place}
use Rattle.tree_proofs.specs.Consistency.{Checks}
use Rattle.tree_proofs.specs.declared.checkpoint.Checkpoint.{Checkpoint}
use Rattle.tree_proofs.specs.declared.outcome.Opened.{Opened}
use Rattle.tree_proofs.specs.Open.{open_from_root, open_of, opened_at}
use Rattle.collide.proofs.Extracting.{IsSized, all_reversed}
use Rattle.collide.specs.Inputs.{open_inputs_from_root, open_inputs_of}
use Rattle.quarrel_core.proofs.JoiningSteps.{joined-over, joined_there, over-left, over-over}
use Rattle.quarrel_core.proofs.JoiningSteps.{over-right}
use Rattle.quarrel_core.proofs.Openings.{whole_of_none}
use Rattle.quarrel_core.specs.Joining.{joined_from_root, joined_of, joined_turned}
use Rattle.quarrel_core.specs.Laws.{Joins, JoinsIfBothCheck, ProofsJoin}
use Rattle.quarrel_core.specs.Sizes.{AreFullHashes}
use Rattle.quarrel_core.specs.declared.joined.Joined.{Joined}
use Rattle.quarrel_core.specs.declared.joined.Joined.TheVariants.{Neither, Pair, Proof}
use Rattle.quarrel_core.proofs.Parted.{prefix_split, part_left, part_over, part_right}
use Rattle.quarrel_core.proofs.TwoProofs.{AreTwo, JoinsTo, TwoJoin, left_joins, same_joins}
use Rattle.quarrel_core.proofs.TwoProofs.{whole_joins}

-- The recursion, by what lies beyond the split.
over_joins : (h : HashFunction) → IsSized h → (z prefix node : Hash) (q p : List Hash)
    (s e n m : ℕ) (known still : Bool) (one other : Opened)
    → AreTwo h s e n m known still node prefix p (z ∷ q) one other → n < m → split_of m < n
    → ((r : List Hash) (from to : ℕ) (yet : Bool) (part beside : Opened)
    → AreTwo h from to (n - split_of m) (m - split_of m) yet false node prefix r q part beside
    → TwoJoin h from to (n - split_of m) (m - split_of m) yet false node prefix r q part beside)
    → TwoJoin h s e n m known still node prefix p (z ∷ q) one other
over_joins h sized z prefix node q [] s e n m known still one other two less above recurse =
    let is = whole_of_none h s e n known node one two.order two.within two.first in
    whole_joins h s e n m known still node prefix z [] q one other two less above is.0 is.1
over_joins h sized z prefix node q (y ∷ p) s e n m known still one other two less above recurse =
    let split = prefix_split n m two.grows above in
    let xs = open_inputs_from_root h s e n known node (y ∷ p) in
    let ys = open_inputs_from_root h 0 n m still prefix (z ∷ q) in
    let order = two.order in
    let within = two.within in
    let beside : Option Opened =
    open_from_root h 0 (n - split_of m) (m - split_of m) false prefix q in
    let by = λ (j i : Joined) (is : j ≡ i) (to : JoinsTo h s e m known node one.subtree other.root
    xs ys i). subst (JoinsTo h s e m known node one.subtree other.root xs ys) (sym is) to in
    cases_place s e n order within
    (λ first last.
    whole_joins h s e n m known still node prefix z (y ∷ p) q one other two less above first last)
    (λ more left.
    let inner : (0 < s) ⊎ (e < n) = inr (omega arith) in
    let left_of : e ≤ split_of m = omega arith in
    by _ _ (joined-over h s e n m known node prefix z (y ∷ p) q less above inner
    ∙ over-left h s e n (split_of m) known node z y beside (joined_there h n m node prefix q) p
    left_of)
    (part_left h sized s e n m known still node prefix z y p q one other two less above left_of))
    (λ more right.
    let bounds = split_bounds n in
    let positive = bounds.positive in
    let inner : (0 < s) ⊎ (e < n) = inl (omega arith) in
    let past : split_of m < e = omega arith in
    let right_of : split_of m ≤ s = omega arith in
    by _ _ (joined-over h s e n m known node prefix z (y ∷ p) q less above inner
    ∙ over-right h s e n (split_of m) known node z y beside (joined_there h n m node prefix q) p
    past right_of)
    (part_right h sized s e n m known still node prefix z y p q one other two less above right_of
    (recurse p (s - split_of m) (e - split_of m) known)))
    (λ more inner before past.
    let sooner : s < split_of m = omega arith in
    let beyond : split_of m < e = omega arith in
    by _ _ (joined-over h s e n m known node prefix z (y ∷ p) q less above inner
    ∙ over-over h s e n (split_of m) known node z y beside (joined_there h n m node prefix q) p
    beyond sooner)
    (part_over h sized s e n m known still node prefix z y p q one other two less above sooner
    beyond inner (recurse p 0 (e - split_of m) false)))

pub joins : (q : List Hash) (h : HashFunction) → IsSized h → (p : List Hash) (s e n m : ℕ)
    (known still : Bool) (node prefix : Hash) (one other : Opened)
    → AreTwo h s e n m known still node prefix p q one other
    → TwoJoin h s e n m known still node prefix p q one other
joins [] h sized p s e n m known still node prefix one other two =
    let is = whole_of_none h 0 n m still prefix other (let order = two.order in
    let within = two.within in omega arith) two.grows two.second in
    same_joins h s e n m known still node prefix p [] one other two is.1
joins (z ∷ q) h sized p s e n m known still node prefix one other two =
    ⊎_elim
    (λ (less : n < m).
    ⊎_elim
    (λ (above : split_of m < n).
    over_joins h sized z prefix node q p s e n m known still one other two less above
    (λ r from to yet part beside.
    joins q h sized r from to (n - split_of m) (m - split_of m) yet false node prefix part beside))
    (λ (left : n ≤ split_of m).
    left_joins h s e n m known still node prefix z p q one other two less left
    (λ below. joins q h sized p s e n (split_of m) known still node prefix one below))
    (cases_lt (split_of m) n))
    (λ (le : m ≤ n).
    let grows = two.grows in
    same_joins h s e n m known still node prefix p (z ∷ q) one other two (omega arith))
    (cases_lt n m)

-- The same of proofs as they are written, the lowest hash first.

turned_joins : (h : HashFunction) (s e m : ℕ) (node root : Hash) (firsts seconds : List Text)
    → (e ≤ m → (proof : List Hash)
    → open_of h s e m true node proof ≡ Some (opened_at node root)
    → Checks h s e m node root proof) → e ≤ m
    → (j : Joined) → JoinsTo h s e m true node node root firsts seconds j
    → Joins h s e m node root firsts seconds (joined_turned j)
unfolding JoinsTo open_of open_inputs_of
turned_joins h s e m node root firsts seconds checks within (Proof r) is = record {
  checks = checks within (reverse r)
      (ap (open_from_root h s e m true node) (reverse-reverse r) ∙ is.opens);
  inputs = λ t inside. is.inputs t
      (subst (λ (q : List Hash). Contains (open_inputs_from_root h s e m true node q) t)
      (reverse-reverse r) inside);
  whole = all_reversed r is.whole;
}
turned_joins h s e m node root firsts seconds checks within (Pair x y) is = is
turned_joins h s e m node root firsts seconds checks within Neither is = is

pub ProofsJoin_always : (h : HashFunction) → IsSized h → ProofsJoin h
unfolding open_of open_inputs_of joined_of
ProofsJoin_always h sized start end n m node prefix root first second grows firsts seconds one two =
    let inside = one.within in
    turned_joins h start end m node root (open_inputs_of h start end n true node first)
    (open_inputs_of h 0 n m true prefix second)
    (λ within proof opens. record { valid = one.valid; within = within; opens = opens })
    (omega arith)
    (joined_from_root h start end n m true node prefix (reverse first) (reverse second))
    (joins (reverse second) h sized (reverse first) start end n m true true node prefix
    (opened_at node prefix) (opened_at prefix root)
    (record {
      order = some_in start end one.valid;
      within = one.within;
      grows = grows;
      firsts = all_reversed first firsts;
      seconds = all_reversed second seconds;
      first = one.opens;
      second = two.opens;
      meet = refl;
    }))

-- what is made of two proofs that check
pub joins_if_checked : (h : HashFunction) → IsSized h → (start end : ℕ) (held : Checkpoint) (n : ℕ)
    (node : Hash) (first second : List Hash) (joined : Joined) → held.size ≤ n
    → AreFullHashes first → AreFullHashes second
    → joined ≡ joined_of h start end held.size n node held.root first second
    → JoinsIfBothCheck h start end held n node first second joined
joins_if_checked h sized start end held n node first second joined grows firsts seconds is root one
    two =
    subst
    (λ (j : Joined). Joins h start end n node root
    (open_inputs_of h start end held.size true node first)
    (open_inputs_of h 0 held.size n true held.root second) j)
    (sym is)
    (ProofsJoin_always h sized start end held.size n node held.root root first second grows firsts
    seconds one two)
