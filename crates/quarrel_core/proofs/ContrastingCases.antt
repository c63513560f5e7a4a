-- What the code gives in each case, with proofs whose lowest hash comes first.
use Rattle.std.proofs.Common.{◌≡◌, ⊎_elim, ℕ, ◌-◌, ◌<◌, ◌≤◌, ◌⊎◌, Bool, false, List, [], ◌∷◌}
use Rattle.std.proofs.Common.{◌++◌, length, sym, ◌∙◌, ap, arith}
use Rattle.std.specs.Prelude.{Option, reverse}
use Rattle.std.proofs.lemmas.Bool.{cases_lt}
use Rattle.byte_formats.specs.Types.{Hash, HashFunction}
use Rattle.tree_core.specs.Split.{split_of}
use Rattle.tree_proofs.specs.declared.outcome.Opened.{Opened}
use Rattle.tree_proofs.specs.Open.{open_from_root, open_of}
use Rattle.collide.specs.After.{IsFollowing}
use Rattle.collide.specs.declared.finding.Finding.{Finding}
use Rattle.collide.specs.declared.finding.Finding.TheVariants.{Same}
use Rattle.quarrel_core.proofs.Contrasts.{contrast-first_short, contrast-left, contrast-over}
use Rattle.quarrel_core.proofs.Contrasts.{contrast-right, contrast-second_short, contrast-whole}
use Rattle.quarrel_core.proofs.JoiningCases.{turned_last, turned_none}
use Rattle.quarrel_core.specs.Contrasting.{contrast_after, contrast_from_root, contrast_left}

pub first_short : (h : HashFunction) (s e n : ℕ) (known : Bool) (node other : Hash)
    (first second : List Hash) → length first ≡ 0
    → Same ≡ contrast_from_root h s e n known node other (reverse first) (reverse second)
first_short h s e n known node other first second none =
    sym (ap (λ (p : List Hash). contrast_from_root h s e n known node other p (reverse second))
    (turned_none first none)
    ∙ contrast-first_short h s e n known node other (reverse second))

pub second_short : (h : HashFunction) (s e n : ℕ) (known : Bool) (node other y : Hash)
    (first less second : List Hash) → first ≡ less ++ y ∷ [] → length second ≡ 0
    → Same ≡ contrast_from_root h s e n known node other (reverse first) (reverse second)
second_short h s e n known node other y first less second is none =
    sym (ap (λ (p : List Hash). contrast_from_root h s e n known node other p (reverse second))
    (turned_last first less y is)
    ∙ ap (contrast_from_root h s e n known node other (y ∷ reverse less)) (turned_none second none)
    ∙ contrast-second_short h s e n known node other y (reverse less))

both_turned : (h : HashFunction) (s e n : ℕ) (known : Bool) (node other y z : Hash)
    (first less second rest : List Hash) → first ≡ less ++ y ∷ [] → second ≡ rest ++ z ∷ []
    → contrast_from_root h s e n known node other (reverse first) (reverse second)
    ≡ contrast_from_root h s e n known node other (y ∷ reverse less) (z ∷ reverse rest)
both_turned h s e n known node other y z first less second rest first_is second_is =
    ap (λ (p : List Hash). contrast_from_root h s e n known node other p (reverse second))
    (turned_last first less y first_is)
    ∙ ap (contrast_from_root h s e n known node other (y ∷ reverse less))
    (turned_last second rest z second_is)

pub case_all : (h : HashFunction) (s e n : ℕ) (known : Bool) (node other y z : Hash)
    (first less second rest : List Hash) → first ≡ less ++ y ∷ [] → second ≡ rest ++ z ∷ []
    → s ≡ 0 → e ≡ n
    → Same ≡ contrast_from_root h s e n known node other (reverse first) (reverse second)
case_all h s e n known node other y z first less second rest first_is second_is begin last =
    sym (both_turned h s e n known node other y z first less second rest first_is second_is
    ∙ contrast-whole h s e n known node other y z (reverse less) (reverse rest) begin last)

pub case_part_left : (h : HashFunction) (s e n k : ℕ) (known : Bool) (node other y z : Hash)
    (first less second rest : List Hash) (one two : Option Opened) (below found : Finding)
    → k ≡ split_of n → first ≡ less ++ y ∷ [] → second ≡ rest ++ z ∷ [] → (0 < s) ⊎ (e < n)
    → e ≤ k → one ≡ open_of h s e k known node less → two ≡ open_of h s e k known other rest
    → below ≡ contrast_from_root h s e k known node other (reverse less) (reverse rest)
    → found ≡ contrast_left y z below one two
    → found ≡ contrast_from_root h s e n known node other (reverse first) (reverse second)
unfolding open_of
case_part_left h s e n k known node other y z first less second rest one two below found k_is
    first_is second_is inner left one_is two_is below_is found_is =
    let p = reverse less in
    let q = reverse rest in
    found_is
    ∙ ap (λ (b : Finding). contrast_left y z b one two) below_is
    ∙ ap (λ (o : Option Opened). contrast_left y z
    (contrast_from_root h s e k known node other p q) o two) one_is
    ∙ ap (contrast_left y z (contrast_from_root h s e k known node other p q)
    (open_from_root h s e k known node p)) two_is
    ∙ sym (both_turned h s e n known node other y z first less second rest first_is second_is
    ∙ contrast-left h s e n k known node other y z p q (sym k_is) inner left)

-- the case after the split, by where the interval starts
contrast-following : (h : HashFunction) (s e n k from to : ℕ) (known still : Bool)
    (node other y z : Hash) (p q : List Hash) → split_of n ≡ k → (0 < s) ⊎ (e < n) → k < e
    → IsFollowing k s e known from to still
    → contrast_from_root h s e n known node other (y ∷ p) (z ∷ q)
    ≡ contrast_after y z (contrast_from_root h from to (n - k) still node other p q)
    (open_from_root h from to (n - k) still node p)
    (open_from_root h from to (n - k) still other q)
contrast-following h s e n k from to known still node other y z p q is inner past following =
    ⊎_elim
    (λ (before : s < k).
    let over = following.over before in
    let last = following.last in
    let there : e - k ≡ to = omega arith in
    contrast-over h s e n k known node other y z p q is inner past before
    ∙ moved 0 from (e - k) to false still (sym over.0) there (sym over.1))
    (λ (right : k ≤ s).
    let same = following.following right in
    let first = same.0 in
    let last = following.last in
    let begin : s - k ≡ from = omega arith in
    let there : e - k ≡ to = omega arith in
    contrast-right h s e n k known node other y z p q is inner past right
    ∙ moved (s - k) from (e - k) to known still begin there (sym same.1))
    (cases_lt s k)
  where
    moved : (a b c d : ℕ) (f g : Bool) → a ≡ b → c ≡ d → f ≡ g
        → contrast_after y z (contrast_from_root h a c (n - k) f node other p q)
        (open_from_root h a c (n - k) f node p) (open_from_root h a c (n - k) f other q)
        ≡ contrast_after y z (contrast_from_root h b d (n - k) g node other p q)
        (open_from_root h b d (n - k) g node p) (open_from_root h b d (n - k) g other q)
    moved a b c d f g first last same =
        ap (λ (i : ℕ). contrast_after y z (contrast_from_root h i c (n - k) f node other p q)
        (open_from_root h i c (n - k) f node p) (open_from_root h i c (n - k) f other q)) first
        ∙ ap (λ (i : ℕ). contrast_after y z (contrast_from_root h b i (n - k) f node other p q)
        (open_from_root h b i (n - k) f node p) (open_from_root h b i (n - k) f other q)) last
        ∙ ap (λ (i : Bool). contrast_after y z (contrast_from_root h b d (n - k) i node other p q)
        (open_from_root h b d (n - k) i node p) (open_from_root h b d (n - k) i other q)) same

pub case_part_after : (h : HashFunction) (s e n k from to : ℕ) (known still : Bool)
    (node other y z : Hash) (first less second rest : List Hash) (one two : Option Opened)
    (below found : Finding)
    → k ≡ split_of n → first ≡ less ++ y ∷ [] → second ≡ rest ++ z ∷ [] → (0 < s) ⊎ (e < n)
    → k < e → IsFollowing k s e known from to still
    → one ≡ open_of h from to (n - k) still node less
    → two ≡ open_of h from to (n - k) still other rest
    → below ≡ contrast_from_root h from to (n - k) still node other (reverse less) (reverse rest)
    → found ≡ contrast_after y z below one two
    → found ≡ contrast_from_root h s e n known node other (reverse first) (reverse second)
unfolding open_of
case_part_after h s e n k from to known still node other y z first less second rest one two below
    found k_is first_is second_is inner past following one_is two_is below_is found_is =
    let p = reverse less in
    let q = reverse rest in
    found_is
    ∙ ap (λ (b : Finding). contrast_after y z b one two) below_is
    ∙ ap (λ (o : Option Opened). contrast_after y z
    (contrast_from_root h from to (n - k) still node other p q) o two) one_is
    ∙ ap (contrast_after y z (contrast_from_root h from to (n - k) still node other p q)
    (open_from_root h from to (n - k) still node p)) two_is
    ∙ sym (both_turned h s e n known node other y z first less second rest first_is second_is
    ∙ contrast-following h s e n k from to known still node other y z p q (sym k_is) inner past
    following)
