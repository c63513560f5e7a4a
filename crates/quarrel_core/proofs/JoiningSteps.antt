-- The cases of joining, with the numbers of the recursion as variables.
use Rattle.std.proofs.Common.{◌≡◌, ℕ, ◌-◌, ◌<◌, ◌≤◌, ◌⊎◌, ⊎_elim, Bool, false, eqb, List, []}
use Rattle.std.proofs.Common.{◌∷◌, sym, ◌∙◌, ap, arith}
use Rattle.std.specs.Prelude.{Option}
use Rattle.std.proofs.lemmas.Bool.{and_from, cases_lt, cond-false, cond-true, eq-eqb, le-leb}
use Rattle.std.proofs.lemmas.Bool.{lt-leb, ne_eqb}
use Rattle.byte_formats.specs.Types.{Hash, HashFunction}
use Rattle.tree_core.specs.Split.{split_of}
use Rattle.tree_proofs.proofs.Made.{other-whole}
use Rattle.tree_proofs.specs.declared.outcome.Opened.{Opened}
use Rattle.tree_proofs.specs.Open.{open_from_root}
use Rattle.collide.specs.After.{IsFollowing}
use Rattle.quarrel_core.specs.Joining.{joined_right, joined_from_root, joined_left, joined_over}
use Rattle.quarrel_core.specs.Joining.{joined_with}
use Rattle.quarrel_core.specs.declared.joined.Joined.{Joined}
use Rattle.quarrel_core.specs.declared.joined.Joined.TheVariants.{Neither, Proof}

pub joined-same : (h : HashFunction) (s e n m : ℕ) (known : Bool) (node prefix : Hash)
    (p q : List Hash) → n ≡ m → joined_from_root h s e n m known node prefix p q ≡ Proof p
unfolding joined_from_root
joined-same h s e n m known node prefix p [] same = cond-true _ _ _ (eq-eqb n m same)
joined-same h s e n m known node prefix p (z ∷ q) same = cond-true _ _ _ (eq-eqb n m same)

pub joined-short : (h : HashFunction) (s e n m : ℕ) (known : Bool) (node prefix : Hash)
    (p : List Hash) → n < m → joined_from_root h s e n m known node prefix p [] ≡ Neither
unfolding joined_from_root
joined-short h s e n m known node prefix p less =
    cond-false _ _ _ (ne_eqb n m (λ same. omega arith))

pub joined-left : (h : HashFunction) (s e n m : ℕ) (known : Bool) (node prefix z : Hash)
    (p q : List Hash) → n < m → n ≤ split_of m
    → joined_from_root h s e n m known node prefix p (z ∷ q)
    ≡ joined_with z (joined_from_root h s e n (split_of m) known node prefix p q)
unfolding joined_from_root
joined-left h s e n m known node prefix z p q less within =
    cond-false _ _ _ (ne_eqb n m (λ same. omega arith))
    ∙ cond-true _ _ _ (le-leb n (split_of m) within)

pub joined-whole : (h : HashFunction) (s e n m : ℕ) (known : Bool) (node prefix z : Hash)
    (p q : List Hash) → n < m → split_of m < n → s ≡ 0 → e ≡ n
    → joined_from_root h s e n m known node prefix p (z ∷ q) ≡ Proof (z ∷ q)
unfolding joined_from_root
joined-whole h s e n m known node prefix z p q less above first last =
    cond-false _ _ _ (ne_eqb n m (λ same. omega arith))
    ∙ cond-false _ _ _ (lt-leb n (split_of m) above)
    ∙ cond-true _ _ _ (and_from (eqb s 0) (eqb e n) (eq-eqb s 0 first) (eq-eqb e n last))

-- both proofs are joined after the split
abbrev pub joined_there : HashFunction → ℕ → ℕ → Hash → Hash → List Hash → ℕ → ℕ → Bool
    → List Hash → Joined
joined_there h n m node prefix q from to still rest =
    joined_from_root h from to (n - split_of m) (m - split_of m) still node prefix rest q

pub joined-over : (h : HashFunction) (s e n m : ℕ) (known : Bool) (node prefix z : Hash)
    (p q : List Hash) → n < m → split_of m < n → (0 < s) ⊎ (e < n)
    → joined_from_root h s e n m known node prefix p (z ∷ q)
    ≡ joined_over h s e n (split_of m) known node z
    (open_from_root h 0 (n - split_of m) (m - split_of m) false prefix q)
    (joined_there h n m node prefix q) p
unfolding joined_from_root
joined-over h s e n m known node prefix z p q less above inner =
    cond-false _ _ _ (ne_eqb n m (λ same. omega arith))
    ∙ cond-false _ _ _ (lt-leb n (split_of m) above)
    ∙ cond-false _ _ _ (other-whole s e n inner)

pub over-left : (h : HashFunction) (s e n k : ℕ) (known : Bool) (node z y : Hash)
    (beside : Option Opened) (rest : ℕ → ℕ → Bool → List Hash → Joined) (p : List Hash) → e ≤ k
    → joined_over h s e n k known node z beside rest (y ∷ p)
    ≡ joined_left y z p (open_from_root h s e k known node p) beside
over-left h s e n k known node z y beside rest p left = cond-true _ _ _ (le-leb e k left)

pub over-right : (h : HashFunction) (s e n k : ℕ) (known : Bool) (node z y : Hash)
    (beside : Option Opened) (rest : ℕ → ℕ → Bool → List Hash → Joined) (p : List Hash) → k < e
    → k ≤ s
    → joined_over h s e n k known node z beside rest (y ∷ p)
    ≡ joined_right y z (rest (s - k) (e - k) known p)
    (open_from_root h (s - k) (e - k) (n - k) known node p) beside
over-right h s e n k known node z y beside rest p past right =
    cond-false _ _ _ (lt-leb e k past) ∙ cond-true _ _ _ (le-leb k s right)

pub over-over : (h : HashFunction) (s e n k : ℕ) (known : Bool) (node z y : Hash)
    (beside : Option Opened) (rest : ℕ → ℕ → Bool → List Hash → Joined) (p : List Hash) → k < e
    → s < k
    → joined_over h s e n k known node z beside rest (y ∷ p)
    ≡ joined_right y z (rest 0 (e - k) false p)
    (open_from_root h 0 (e - k) (n - k) false node p) beside
over-over h s e n k known node z y beside rest p past before =
    cond-false _ _ _ (lt-leb e k past) ∙ cond-false _ _ _ (lt-leb k s before)

-- The same where the interval after the split is given.
pub over-following : (h : HashFunction) (s e n k from to : ℕ) (known still : Bool) (node z y : Hash)
    (beside : Option Opened) (rest : ℕ → ℕ → Bool → List Hash → Joined) (p : List Hash) → k < e
    → IsFollowing k s e known from to still
    → joined_over h s e n k known node z beside rest (y ∷ p)
    ≡ joined_right y z (rest from to still p) (open_from_root h from to (n - k) still node p)
    beside
over-following h s e n k from to known still node z y beside rest p past following =
    ⊎_elim
    (λ (before : s < k).
    let over = following.over before in
    let last = following.last in
    let there : e - k ≡ to = omega arith in
    over-over h s e n k known node z y beside rest p past before
    ∙ moved 0 from (e - k) to false still (sym over.0) there (sym over.1))
    (λ (right : k ≤ s).
    let is = following.following right in
    let first = is.0 in
    let last = following.last in
    let begin : s - k ≡ from = omega arith in
    let there : e - k ≡ to = omega arith in
    over-right h s e n k known node z y beside rest p past right
    ∙ moved (s - k) from (e - k) to known still begin there (sym is.1))
    (cases_lt s k)
  where
    moved : (a b c d : ℕ) (f g : Bool) → a ≡ b → c ≡ d → f ≡ g
        → joined_right y z (rest a c f p) (open_from_root h a c (n - k) f node p) beside
        ≡ joined_right y z (rest b d g p) (open_from_root h b d (n - k) g node p) beside
    moved a b c d f g first last same =
        ap (λ (i : ℕ). joined_right y z (rest i c f p)
        (open_from_root h i c (n - k) f node p) beside) first
        ∙ ap (λ (i : ℕ). joined_right y z (rest b i f p)
        (open_from_root h b i (n - k) f node p) beside) last
        ∙ ap (λ (i : Bool). joined_right y z (rest b d i p)
        (open_from_root h b d (n - k) i node p) beside) same
