-- What the code gives in each case, with proofs whose lowest hash comes first.
use Rattle.std.proofs.Common.{◌≡◌, ℕ, ◌-◌, ◌<◌, ◌≤◌, ◌⊎◌, Bool, true, false, List, [], ◌∷◌}
use Rattle.std.proofs.Common.{◌++◌, length, sym, ◌∙◌, ap, refl, subst, arith}
use Rattle.std.specs.Prelude.{Option, reverse}
use Rattle.std.proofs.lemmas.List.{reverse-append, reverse-reverse}
use Rattle.byte_formats.specs.Types.{Hash, HashFunction}
use Rattle.tree_core.specs.Split.{split_of}
use Rattle.tree_proofs.specs.declared.outcome.Opened.{Opened}
use Rattle.tree_proofs.specs.Open.{open_from_root, open_of}
use Rattle.collide.specs.After.{IsFollowing}
use Rattle.quarrel_core.proofs.JoiningSteps.{joined-left, joined-over, joined-same, joined-short}
use Rattle.quarrel_core.proofs.JoiningSteps.{joined-whole, joined_there, over-following, over-left}
use Rattle.quarrel_core.specs.Joining.{joined_right, joined_from_root, joined_left}
use Rattle.quarrel_core.specs.Joining.{joined_turned}
use Rattle.quarrel_core.specs.Joining.{joined_of, joined_with}
use Rattle.quarrel_core.specs.declared.joined.Joined.{Joined}
use Rattle.quarrel_core.specs.declared.joined.Joined.TheVariants.{Neither, Pair, Proof}

pub turned_last : (proof rest : List Hash) (z : Hash) → proof ≡ rest ++ z ∷ []
    → reverse proof ≡ z ∷ reverse rest
turned_last proof rest z is = ap reverse is ∙ reverse-append rest (z ∷ [])

pub turned_none : (proof : List Hash) → length proof ≡ 0 → reverse proof ≡ []
turned_none [] none = refl
turned_none (x ∷ rest) none = let no : ⊥ = omega arith in absurd no

-- a proof with one hash more
pub more_turned : (j : Joined) (proof : List Hash) (z : Hash) → j ≡ Proof (proof ++ z ∷ [])
    → joined_turned j ≡ joined_with z (Proof (reverse proof))
more_turned j proof z is =
    ap joined_turned is ∙ ap (λ (q : List Hash). Proof q) (reverse-append proof (z ∷ []))

-- turned twice, it is as it was
turned_twice : (j : Joined) → joined_turned (joined_turned j) ≡ j
turned_twice (Proof proof) = ap (λ (q : List Hash). Proof q) (reverse-reverse proof)
turned_twice (Pair x y) = refl
turned_twice Neither = refl

pub turned_back : (h : HashFunction) (s e n m : ℕ) (node prefix : Hash) (first second : List Hash)
    (j : Joined)
    → joined_turned j ≡ joined_from_root h s e n m true node prefix (reverse first) (reverse second)
    → j ≡ joined_of h s e n m node prefix first second
unfolding joined_of
turned_back h s e n m node prefix first second j is = sym (turned_twice j) ∙ ap joined_turned is

pub case_same : (h : HashFunction) (s e n m : ℕ) (known : Bool) (node prefix : Hash)
    (first second : List Hash) (j : Joined) → n ≡ m → j ≡ Proof first
    → joined_turned j
    ≡ joined_from_root h s e n m known node prefix (reverse first) (reverse second)
case_same h s e n m known node prefix first second j same is =
    ap joined_turned is
    ∙ sym (joined-same h s e n m known node prefix (reverse first) (reverse second) same)

pub case_short : (h : HashFunction) (s e n m : ℕ) (known : Bool) (node prefix : Hash)
    (first second : List Hash) → n < m → length second ≡ 0
    → Neither ≡ joined_from_root h s e n m known node prefix (reverse first) (reverse second)
case_short h s e n m known node prefix first second less none =
    sym (ap (joined_from_root h s e n m known node prefix (reverse first)) (turned_none second none)
    ∙ joined-short h s e n m known node prefix (reverse first) less)

pub case_left : (h : HashFunction) (s e n m k : ℕ) (known : Bool) (node prefix z : Hash)
    (first second rest : List Hash) (below more : Joined) → k ≡ split_of m
    → second ≡ rest ++ z ∷ [] → n < m → n ≤ k
    → joined_turned below
    ≡ joined_from_root h s e n k known node prefix (reverse first) (reverse rest)
    → joined_turned more ≡ joined_with z (joined_turned below)
    → joined_turned more
    ≡ joined_from_root h s e n m known node prefix (reverse first) (reverse second)
case_left h s e n m k known node prefix z first second rest below more k_is is less within below_is
    more_is =
    let inside : n ≤ split_of m = omega arith in
    more_is ∙ ap (joined_with z) below_is
    ∙ ap (λ (i : ℕ). joined_with z (joined_from_root h s e n i known node prefix (reverse first)
    (reverse rest))) k_is
    ∙ sym (ap (joined_from_root h s e n m known node prefix (reverse first))
    (turned_last second rest z is)
    ∙ joined-left h s e n m known node prefix z (reverse first) (reverse rest) less inside)

pub case_whole : (h : HashFunction) (s e n m k : ℕ) (known : Bool) (node prefix z : Hash)
    (first second rest : List Hash) (j : Joined) → k ≡ split_of m
    → second ≡ rest ++ z ∷ [] → n < m → k < n → s ≡ 0 → e ≡ n → j ≡ Proof second
    → joined_turned j
    ≡ joined_from_root h s e n m known node prefix (reverse first) (reverse second)
case_whole h s e n m k known node prefix z first second rest j k_is is less above begin last j_is =
    let past : split_of m < n = omega arith in
    ap joined_turned j_is ∙ ap (λ (q : List Hash). Proof q) (turned_last second rest z is)
    ∙ sym (ap (joined_from_root h s e n m known node prefix (reverse first))
    (turned_last second rest z is)
    ∙ joined-whole h s e n m known node prefix z (reverse first) (reverse rest) less past begin
    last)

pub case_none : (h : HashFunction) (s e n m k : ℕ) (known : Bool) (node prefix z : Hash)
    (first second rest : List Hash) → k ≡ split_of m
    → second ≡ rest ++ z ∷ [] → n < m → k < n → (0 < s) ⊎ (e < n) → length first ≡ 0
    → Neither ≡ joined_from_root h s e n m known node prefix (reverse first) (reverse second)
case_none h s e n m k known node prefix z first second rest k_is is less above inner none =
    let past : split_of m < n = omega arith in
    sym (ap (λ (p : List Hash). joined_from_root h s e n m known node prefix p (reverse second))
    (turned_none first none)
    ∙ ap (joined_from_root h s e n m known node prefix []) (turned_last second rest z is)
    ∙ joined-over h s e n m known node prefix z [] (reverse rest) less past inner)

pub case_part : (h : HashFunction) (s e n m k : ℕ) (known : Bool) (node prefix z y : Hash)
    (first less_first second rest : List Hash) (part beside : Option Opened) (j : Joined)
    → k ≡ split_of m → second ≡ rest ++ z ∷ [] → first ≡ less_first ++ y ∷ [] → n < m → k < n
    → (0 < s) ⊎ (e < n) → e ≤ k
    → part ≡ open_of h s e k known node less_first
    → beside ≡ open_of h 0 (n - k) (m - k) false prefix rest
    → joined_turned j ≡ joined_left y z (reverse less_first) part beside
    → joined_turned j
    ≡ joined_from_root h s e n m known node prefix (reverse first) (reverse second)
unfolding open_of
case_part h s e n m k known node prefix z y first less_first second rest part beside j k_is is
    first_is less above inner left part_is beside_is j_is =
    let past : split_of m < n = omega arith in
    let inside : e ≤ split_of m = omega arith in
    let p = reverse less_first in
    let q = reverse rest in
    j_is
    ∙ ap (λ (o : Option Opened). joined_left y z p o beside) part_is
    ∙ ap (joined_left y z p (open_from_root h s e k known node p)) beside_is
    ∙ ap (λ (i : ℕ). joined_left y z p (open_from_root h s e i known node p)
    (open_from_root h 0 (n - i) (m - i) false prefix q)) k_is
    ∙ sym (ap (λ (r : List Hash). joined_from_root h s e n m known node prefix r (reverse second))
    (turned_last first less_first y first_is)
    ∙ ap (joined_from_root h s e n m known node prefix (y ∷ p)) (turned_last second rest z is)
    ∙ joined-over h s e n m known node prefix z (y ∷ p) q less past inner
    ∙ over-left h s e n (split_of m) known node z y
    (open_from_root h 0 (n - split_of m) (m - split_of m) false prefix q)
    (joined_there h n m node prefix q) p inside)

pub case_after : (h : HashFunction) (s e n m k from to : ℕ) (known still : Bool)
    (node prefix z y : Hash) (first less_first second rest : List Hash)
    (part beside : Option Opened) (below j : Joined)
    → k ≡ split_of m → second ≡ rest ++ z ∷ [] → first ≡ less_first ++ y ∷ [] → n < m → k < n
    → (0 < s) ⊎ (e < n) → k < e → IsFollowing k s e known from to still
    → part ≡ open_of h from to (n - k) still node less_first
    → beside ≡ open_of h 0 (n - k) (m - k) false prefix rest
    → joined_turned below
    ≡ joined_from_root h from to (n - k) (m - k) still node prefix (reverse less_first)
    (reverse rest)
    → joined_turned j ≡ joined_right y z (joined_turned below) part beside
    → joined_turned j
    ≡ joined_from_root h s e n m known node prefix (reverse first) (reverse second)
unfolding open_of
case_after h s e n m k from to known still node prefix z y first less_first second rest part beside
    below j k_is is first_is less above inner past following part_is beside_is below_is j_is =
    let over : split_of m < n = omega arith in
    let beyond : split_of m < e = omega arith in
    let p = reverse less_first in
    let q = reverse rest in
    j_is
    ∙ ap (λ (b : Joined). joined_right y z b part beside) below_is
    ∙ ap (λ (o : Option Opened). joined_right y z
    (joined_from_root h from to (n - k) (m - k) still node prefix p q) o beside) part_is
    ∙ ap (joined_right y z (joined_from_root h from to (n - k) (m - k) still node prefix p q)
    (open_from_root h from to (n - k) still node p)) beside_is
    ∙ ap (λ (i : ℕ). joined_right y z
    (joined_from_root h from to (n - i) (m - i) still node prefix p q)
    (open_from_root h from to (n - i) still node p)
    (open_from_root h 0 (n - i) (m - i) false prefix q)) k_is
    ∙ sym (ap (λ (r : List Hash). joined_from_root h s e n m known node prefix r (reverse second))
    (turned_last first less_first y first_is)
    ∙ ap (joined_from_root h s e n m known node prefix (y ∷ p)) (turned_last second rest z is)
    ∙ joined-over h s e n m known node prefix z (y ∷ p) q less over inner
    ∙ over-following h s e n (split_of m) from to known still node z y
    (open_from_root h 0 (n - split_of m) (m - split_of m) false prefix q)
    (joined_there h n m node prefix q) p beyond
    (subst (λ (i : ℕ). IsFollowing i s e known from to still) k_is following))
