-- Of which runs a byte may have gone out, and which of them broke off.
use Rattle.std.proofs.Common.{◌≡◌, ◌≢◌, ◌<◌, ◌≤◌, ◌⊎◌, inl, inr, ℕ, List, [], ◌∷◌, Option, None}
use Rattle.std.proofs.Common.{Some, length, refl, sym, ap, subst, ◌∙◌, arith, rules, take_all, Bool}
use Rattle.std.proofs.Common.{true, false, ◌||◌, ◌&&◌, not, ◌==◌, nat_lt}
use Rattle.std.proofs.lemmas.Bool.{and_from, eq-eqb, eqb-true, false_from_ne_true, ltb-true}
use Rattle.std.proofs.lemmas.Bool.{not_from_false, not_from_true, or_left}
use Rattle.std.specs.Io.KnownBytes.{Appends}
use Rattle.mtc_io.specs.Streams.{AppendsPrefix}
use Rattle.file_events.specs.Worlds.{breaks_off, is_heard}
use Rattle.mtc_laws.specs.RunLaws.{TookSome}

-- where nothing was appended, no byte went out
pub took_none : (old new : Option (List ℕ)) → Appends old new [] → TookSome old new → ⊥
took_none None new none took = took
took_none (Some xs) None none took = took
took_none (Some xs) (Some ys) none took = grind (rules, arith, none, took)

pub prefix_none : (old new : Option (List ℕ)) → AppendsPrefix old new [] → TookSome old new → ⊥
prefix_none old new prefix took =
    took_none old new (subst (Appends old new) (take_all prefix.0 [] (omega arith)) prefix.1) took

-- a text of which a byte went out isn't empty
pub prefix_some : (old new : Option (List ℕ)) (text : List ℕ) → AppendsPrefix old new text
    → TookSome old new → 0 < length text
prefix_some old new [] prefix took = absurd (prefix_none old new prefix took)
prefix_some old new (x ∷ xs) prefix took = omega arith

-- a run that was heard did its work, or a byte of it may have gone out
abbrev Heard : ℕ → Option (List ℕ) → Option (List ℕ) → Type 0
Heard status old new = (status ≡ 0) ⊎ (TookSome old new ⊎ ((status ≡ 6) × (old ≡ None)))

pub either_true : (a b : Bool) → (a || b) ≡ true → (a ≡ true) ⊎ (b ≡ true)
either_true true b is = inl refl
either_true false b is = inr is

pub heard_ways : (status : ℕ) (old new : Option (List ℕ)) → is_heard status old new ≡ true
    → Heard status old new
heard_ways status None new is = elim (either_true (status == 0) (status == 6) is) [
  | inl zero_ ↦ inl (eqb-true status 0 zero_)
  | inr six ↦ inr (inr (eqb-true status 6 six, refl))
]
heard_ways status (Some xs) None is = inl (eqb-true status 0 is)
heard_ways status (Some xs) (Some ys) is =
    elim (either_true (status == 0) (nat_lt (length xs) (length ys)) is) [
      | inl zero_ ↦ inl (eqb-true status 0 zero_)
      | inr less ↦ inr (inl (ltb-true (length xs) (length ys) less))
    ]

pub done_heard : (status : ℕ) (old new : Option (List ℕ)) → status ≡ 0
    → is_heard status old new ≡ true
done_heard status None new is = or_left (status == 0) (status == 6) (eq-eqb status 0 is)
done_heard status (Some xs) None is = eq-eqb status 0 is
done_heard status (Some xs) (Some ys) is = or_left (status == 0) (nat_lt (length xs) (length ys))
    (eq-eqb status 0 is)

-- a run with such a status that appended nothing isn't heard
pub unheard : (status n : ℕ) (old new : Option (List ℕ)) → status ≡ n → 0 < n → n ≢ 6
    → Appends old new [] → is_heard status old new ≡ true → ⊥
unheard status n old new is some other none heard = elim (heard_ways status old new heard) [
  | inl zero_ ↦ omega (arith, is, some, zero_)
  | inr any ↦ elim any [
    | inl took ↦ took_none old new none took
    | inr lost ↦ other (sym is ∙ lost.0)
  ]
]

-- a status of a failed file or of refused memory is one of two
pub breaks_known : (status : ℕ) → breaks_off status ≡ true → status ≤ 10
breaks_known status is = elim (either_true (status == 5) (status == 8) is) [
  | inl five ↦ (let same = eqb-true status 5 five in omega (arith, same))
  | inr eight ↦ (let same = eqb-true status 8 eight in omega (arith, same))
]

-- a run that came to its end didn't break off, nor did one of which a byte went out
pub ended_whole : (broken heard : Bool) → broken ≡ false → (broken && not heard) ≡ false
ended_whole broken heard is = ap (λ (b : Bool). b && not heard) is

pub heard_whole : (broken heard : Bool) → heard ≡ true → (broken && not heard) ≡ false
heard_whole true heard is = not_from_true heard is
heard_whole false heard is = refl

-- one that failed before its first byte did
pub unheard_broke : (broken heard : Bool) → broken ≡ true → (heard ≡ true → ⊥)
    → (broken && not heard) ≡ true
unheard_broke broken heard is none =
    and_from broken (not heard) is (not_from_false heard (false_from_ne_true heard none))
