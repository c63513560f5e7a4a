-- The trusted subtree of an interval.
use Rattle.std.proofs.Common.{◌≡◌, ℕ, Bool, true, false, List, [], ◌∷◌, Some, None, cond, refl, sym}
use Rattle.std.proofs.Common.{ap}
use Rattle.std.proofs.Common.{subst, ◌∙◌, inl, inr, eq-eqb, eqb-true}
use Rattle.std.proofs.lemmas.Bool.{or_parts}
use Rattle.std.specs.Prelude.{◌==◌, ◌&&◌, ◌||◌}
use Rattle.std.specs.List.{find, list_any, AllByRecursion, IsDistinct}
use Rattle.policy_core.specs.Stores.{has_same_interval}
use Rattle.policy_core.specs.declared.lists.Trusted.{Trusted}
use Rattle.policy_core.specs.Acceptance.{IsAmong}
use Rattle.policy_core.specs.Judgement.{is_of}

abbrev pub trusted_with : ℕ → ℕ → List ℕ → Trusted
trusted_with start end hash = record { start = start; end = end; hash = hash }

pub record IsFound (start end : ℕ) (t : Trusted) (xs : List Trusted) : Type 0 where
  pub among : IsAmong t xs
  pub from : t.start ≡ start
  pub to : t.end ≡ end

both_equal : (a b c d : ℕ) → ((a == b) && (c == d)) ≡ true → (a ≡ b) × (c ≡ d)
both_equal a b c d e = go (a == b) (c == d) refl refl e
  where
    go : (p q : Bool) → (a == b) ≡ p → (c == d) ≡ q → (p && q) ≡ true → (a ≡ b) × (c ≡ d)
    go true true first second e = (eqb-true a b first, eqb-true c d second)
    go true false first second e = absurd cc
    go false q first second e = absurd cc

pub find_only : (start end : ℕ) (xs : List Trusted) (t : Trusted)
    → find (is_of start end) xs ≡ Some t → IsFound start end t xs
find_only start end [] t e = absurd cc
find_only start end (x ∷ xs) t e = go (is_of start end x) refl e (λ h. find_only start end xs t h)
  where
    go : (b : Bool) → is_of start end x ≡ b → cond b (Some x) (find (is_of start end) xs) ≡ Some t
        → (find (is_of start end) xs ≡ Some t → IsFound start end t xs)
        → IsFound start end t (x ∷ xs)
    go true test e later =
        let same : x ≡ t = cc in
        let two = both_equal x.start start x.end end test in
        record {
          among = inl same;
          from = sym (ap (λ (y : Trusted). y.start) same) ∙ two.0;
          to =
              sym (ap (λ (y : Trusted). y.end) same) ∙ two.1;
        }
    go false test e later = let f = later e in record {
      among = inr f.among;
      from =
          f.from;
      to = f.to;
    }

all_at : (P : Trusted → Type 0) (t : Trusted) (xs : List Trusted) → AllByRecursion P xs
    → IsAmong t xs → P t
all_at P t [] all among = absurd among
all_at P t (x ∷ xs) all (inl same) = subst P same all.0
all_at P t (x ∷ xs) all (inr later) = all_at P t xs all.1 later

is_itself : (t : Trusted) → is_of t.start t.end t ≡ true
is_itself t = rw (eq-eqb t.start t.start refl, eq-eqb t.end t.end refl) refl

pub find_again : (t : Trusted) (xs : List Trusted) → IsDistinct has_same_interval xs → IsAmong t xs
    → find (is_of t.start t.end) xs ≡ Some t
unfolding IsDistinct
find_again t [] distinct among = absurd among
find_again t (x ∷ xs) distinct (inl same) =
    let P : Trusted → Type 0 = λ y. find (is_of t.start t.end) (y ∷ xs) ≡ Some t in
    let here : find (is_of t.start t.end) (t ∷ xs) ≡ Some t = rw (is_itself t) refl in
    subst P (sym same) here
find_again t (x ∷ xs) distinct (inr later) =
    let Other : Trusted → Type 0 = λ y. has_same_interval x y ≡ false in
    let other : is_of t.start t.end x ≡ false = all_at Other t xs distinct.0 later in
    rw other (find_again t xs distinct.1 later)

pub find_none : (start end : ℕ) (xs : List Trusted) → find (is_of start end) xs ≡ None
    → AllByRecursion (λ t. is_of start end t ≡ false) xs
find_none start end [] e = tt
find_none start end (x ∷ xs) e = go (is_of start end x) refl e (λ h. find_none start end xs h)
  where
    go : (b : Bool) → is_of start end x ≡ b → cond b (Some x) (find (is_of start end) xs) ≡ None
        → (find (is_of start end) xs ≡ None
        → AllByRecursion (λ t. is_of start end t ≡ false) xs)
        → AllByRecursion (λ t. is_of start end t ≡ false) (x ∷ xs)
    go true test e later = absurd cc
    go false test e later = (test, later e)

pub none_found : (start end : ℕ) (xs : List Trusted)
    → AllByRecursion (λ t. is_of start end t ≡ false) xs → find (is_of start end) xs ≡ None
none_found start end [] all = refl
none_found start end (x ∷ xs) all = rw all.0 (none_found start end xs all.1)

-- ---- whether there is one

pub none_of : (start end : ℕ) (xs : List Trusted) → list_any (is_of start end) xs ≡ false
    → AllByRecursion (λ t. is_of start end t ≡ false) xs
none_of start end [] e = tt
none_of start end (x ∷ xs) e =
    let (here, more) = or_parts (is_of start end x) (list_any (is_of start end) xs) e in
    (here, none_of start end xs more)

pub any_of : (t : Trusted) (xs : List Trusted) → IsAmong t xs
    → list_any (is_of t.start t.end) xs ≡ true
any_of t [] among = absurd among
any_of t (x ∷ xs) (inl same) =
    let P : Trusted → Type 0 = λ y. list_any (is_of t.start t.end) (y ∷ xs) ≡ true in
    let here : list_any (is_of t.start t.end) (t ∷ xs) ≡ true = rw (is_itself t) refl in
    subst P (sym same) here
any_of t (x ∷ xs) (inr later) = go (is_of t.start t.end x) (any_of t xs later)
  where
    go : (b : Bool) → list_any (is_of t.start t.end) xs ≡ true
        → (b || list_any (is_of t.start t.end) xs) ≡ true
    go true e = refl
    go false e = e

-- One that has the interval has the hash, where none has another one.
pub any_trusted : (start end : ℕ) (hash : List ℕ) (xs : List Trusted)
    → AllByRecursion (λ t. is_of start end t ≡ true → t.hash ≡ hash) xs
    → list_any (is_of start end) xs ≡ true
    → IsAmong (trusted_with start end hash) xs
any_trusted start end hash [] other e = absurd cc
any_trusted start end hash (x ∷ xs) other e =
    go (is_of start end x) refl e (λ h. any_trusted start end hash xs other.1 h)
  where
    go : (b : Bool) → is_of start end x ≡ b → (b || list_any (is_of start end) xs) ≡ true
        → (list_any (is_of start end) xs ≡ true → IsAmong (trusted_with start end hash) xs)
        → IsAmong (trusted_with start end hash) (x ∷ xs)
    go true test e later =
        let two = both_equal x.start start x.end end test in
        let same : x ≡ trusted_with start end hash =
        ap (λ (n : ℕ). trusted_with n x.end x.hash) two.0
        ∙ (ap (λ (n : ℕ). trusted_with start n x.hash) two.1
        ∙ ap (λ (b : List ℕ). trusted_with start end b) (other.0 test)) in
        inl same
    go false test e later = inr (later e)
