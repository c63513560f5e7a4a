-- Loops that read values up to the end and keep none of them: what is read so far and what is left
-- make the
-- whole.
use Rattle.std.proofs.Common.{◌≡◌, ◌≢◌, ℕ, zero, suc, ◌<◌, ◌≤◌, true, false, List, [], ◌∷◌, ◌++◌}
use Rattle.std.proofs.Common.{length, Result, Ok, Err, refl, sym, ◌∙◌, arith, eq-eqb, ne_eqb}
use Rattle.std.proofs.Common.{true≢false}
use Rattle.std.specs.Prelude.{◌==◌}
use Rattle.byte_formats.specs.Offsets.{At}
use Rattle.byte_formats.specs.Readings.{◌>>=◌, discarded}
use Rattle.byte_formats.specs.Lists.{many_at, up_to_end, each_at}

-- Reading on from here ends as the whole does.
pub record Walks {X E : Type 0} (read : At
    → Result (X × At) E) (total : Result At E) (a : At) : Type 0 where
  pub fuel : ℕ
  pub enough : length a.rest ≤ fuel
  pub rest : discarded (many_at read fuel a) ≡ total

pub walks_from : {X E : Type 0} (read : At → Result (X × At) E) (a : At)
    → Walks read (discarded (up_to_end read a)) a
walks_from read a = record { fuel = length a.rest; enough = omega arith; rest = refl }

discarded-bind : {X Y E : Type 0} (r : Result (X × At) E) (f : X → Y)
    → discarded (r >>= λ (x : X × At). Ok (f x.0, x.1)) ≡ discarded r
discarded-bind (Ok x) f = refl
discarded-bind (Err e) f = refl

many_more : {X E : Type 0} (read : At → Result (X × At) E) (n : ℕ) (a : At) (x : X) (b : At)
    → read a ≡ Ok (x, b) → length a.rest ≢ 0
    → discarded (many_at read (suc n) a) ≡ discarded (many_at read n b)
unfolding many_at
many_more {X} read n a x b step some =
    rw (
      ne_eqb (length a.rest) 0 some,
      step,
    ) (discarded-bind (many_at read n b) (λ (xs : List X). x ∷ xs))

many_fails : {X E : Type 0} (read : At → Result (X × At) E) (n : ℕ) (a : At) (e : E)
    → read a ≡ Err e → length a.rest ≢ 0 → discarded (many_at read (suc n) a) ≡ Err e
unfolding many_at
many_fails read n a e step some = rw (ne_eqb (length a.rest) 0 some, step) refl

many_ends : {X E : Type 0} (read : At → Result (X × At) E) (n : ℕ) (a : At)
    → (length a.rest == 0) ≡ true → discarded (many_at read n a) ≡ Ok a
unfolding many_at
many_ends read zero a none = refl
many_ends read (suc n) a none = rw none refl

some_is : (n : ℕ) → (n == 0) ≡ false → n ≢ 0
some_is n other none = absurd (true≢false (sym (eq-eqb n 0 none) ∙ other))

-- One value more is read.
pub walks_more : {X E : Type 0} (read : At → Result (X × At) E) (total : Result At E) (a : At)
    (x : X) (b : At)
    → read a ≡ Ok (x, b) → length b.rest < length a.rest → Walks read total a → Walks read total b
walks_more {X} {E} read total a x b step less w = go w.fuel w.enough w.rest
  where
    go : (n : ℕ) → length a.rest ≤ n → discarded (many_at read n a) ≡ total → Walks read total b
    go zero le e = absurd (omega arith)
    go (suc n) le e =
        let some : length a.rest ≢ 0 = omega arith in
        record { fuel = n; enough = omega arith; rest = sym (many_more read n a x b step some) ∙ e }

-- The next value doesn't read.
pub walks_fails : {X E : Type 0} (read : At
    → Result (X × At) E) (total : Result At E) (a : At) (e : E)
    → read a ≡ Err e → (length a.rest == 0) ≡ false → Walks read total a → total ≡ Err e
walks_fails {X} {E} read total a e step other w = go w.fuel w.enough w.rest
  where
    go : (n : ℕ) → length a.rest ≤ n → discarded (many_at read n a) ≡ total → total ≡ Err e
    go zero le so_far = let some = some_is (length a.rest) other in absurd (omega arith)
    go (suc n) le so_far = sym so_far ∙ many_fails read n a e step (some_is (length a.rest) other)

-- Nothing is left.
pub walks_end : {X E : Type 0} (read : At → Result (X × At) E) (total : Result At E) (a : At)
    → (length a.rest == 0) ≡ true → Walks read total a → total ≡ Ok a
walks_end read total a none w = sym w.rest ∙ many_ends read w.fuel a none

-- The same for values that are read with the keys of those before them in view.
pub record WalksEach {X K E : Type 0} (key : X → K) (read : List K → At
    → Result (X × At) E) (total : Result At E) (seen : List K) (a : At) : Type 0 where
  pub fuel : ℕ
  pub enough : length a.rest ≤ fuel
  pub rest : discarded (each_at key read fuel seen a) ≡ total

pub each_from : {X K E : Type 0} (key : X → K) (read : List K → At
    → Result (X × At) E) (seen : List K) (a : At)
    → WalksEach key read (discarded (each_at key read (length a.rest) seen a)) seen a
each_from key read seen a = record { fuel = length a.rest; enough = omega arith; rest = refl }

step_more : {X K E : Type 0} (key : X → K) (read : List K → At
    → Result (X × At) E) (n : ℕ) (seen : List K) (a : At) (x : X) (b : At)
    → read seen a ≡ Ok (x, b) → length a.rest ≢ 0 → discarded (each_at key read (suc n) seen a)
    ≡ discarded (each_at key read n (seen ++ key x ∷ []) b)
unfolding each_at
step_more {X} key read n seen a x b step some =
    rw (
      ne_eqb (length a.rest) 0 some,
      step,
    ) (discarded-bind (each_at key read n (seen ++ key x ∷ []) b) (λ (xs : List X). x ∷ xs))

step_fails : {X K E : Type 0} (key : X → K) (read : List K → At
    → Result (X × At) E) (n : ℕ) (seen : List K) (a : At) (e : E)
    → read seen a ≡ Err e → length a.rest ≢ 0 → discarded (each_at key read (suc n) seen a) ≡ Err e
unfolding each_at
step_fails key read n seen a e step some = rw (ne_eqb (length a.rest) 0 some, step) refl

step_ends : {X K E : Type 0} (key : X → K) (read : List K → At
    → Result (X × At) E) (n : ℕ) (seen : List K) (a : At)
    → (length a.rest == 0) ≡ true → discarded (each_at key read n seen a) ≡ Ok a
unfolding each_at
step_ends key read zero seen a none = refl
step_ends key read (suc n) seen a none = rw none refl

-- One value more is read.
pub each_more : {X K E : Type 0} (key : X → K) (read : List K → At
    → Result (X × At) E) (total : Result At E) (seen : List K) (a : At) (x : X) (b : At)
    → read seen a ≡ Ok (x, b) → length b.rest < length a.rest → WalksEach key read total seen a
    → WalksEach key read total (seen ++ key x ∷ []) b
each_more {X} {K} {E} key read total seen a x b step less w = go w.fuel w.enough w.rest
  where
    go : (n : ℕ) → length a.rest ≤ n → discarded (each_at key read n seen a) ≡ total
        → WalksEach key read total (seen ++ key x ∷ []) b
    go zero le e = absurd (omega arith)
    go (suc n) le e =
        let some : length a.rest ≢ 0 = omega arith in
        record {
          fuel = n;
          enough = omega arith;
          rest =
              sym (step_more key read n seen a x b step some) ∙ e;
        }

-- The next value doesn't read.
pub each_fails : {X K E : Type 0} (key : X → K) (read : List K → At
    → Result (X × At) E) (total : Result At E) (seen : List K) (a : At) (e : E)
    → read seen a ≡ Err e → (length a.rest == 0) ≡ false → WalksEach key read total seen a
    → total ≡ Err e
each_fails {X} {K} {E} key read total seen a e step other w = go w.fuel w.enough w.rest
  where
    go : (n : ℕ) → length a.rest ≤ n → discarded (each_at key read n seen a) ≡ total → total ≡ Err e
    go zero le so_far = let some = some_is (length a.rest) other in absurd (omega arith)
    go (suc n) le so_far = sym so_far ∙ step_fails key read n seen a e step
        (some_is (length a.rest) other)

-- Nothing is left.
pub each_end : {X K E : Type 0} (key : X → K) (read : List K → At
    → Result (X × At) E) (total : Result At E) (seen : List K) (a : At)
    → (length a.rest == 0) ≡ true → WalksEach key read total seen a → total ≡ Ok a
each_end key read total seen a none w = sym w.rest ∙ step_ends key read w.fuel seen a none
