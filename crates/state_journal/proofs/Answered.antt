-- What the answer of an append says of the journal.
use Rattle.std.proofs.Common.{◌≡◌, ◌<◌, ◌↔◌, ℕ, nat_lt, Bool, true, false, Result, Ok, Err, refl}
use Rattle.std.proofs.Common.{IsErrOf, IsTrue}
use Rattle.std.proofs.lemmas.Bool.{lt-ltb, ltb-true}
use Rattle.journal_core.specs.declared.error.AppendError.{AppendError}
use Rattle.journal_core.specs.declared.error.AppendError.TheVariants.{Broken, Failed, Full}

not_true : (b : Bool) → (b ≡ true → ⊥) → b ≡ false
not_true true never = absurd (never refl)
not_true false never = refl

-- whether it was broken, and else whether the record is too long for it
abbrev pub AnswersSo : Result (Unit {0}) AppendError → Bool → Bool → Type 0
AnswersSo (Ok done) broken long = (broken ≡ false) × (long ≡ false)
AnswersSo (Err Failed) broken long = (broken ≡ false) × (long ≡ false)
AnswersSo (Err Broken) broken long = broken ≡ true
AnswersSo (Err Full) broken long = (broken ≡ false) × (long ≡ true)

module _ (broken : Bool) (most size : ℕ) where
  neither : (result : Result (Unit {0}) AppendError) → (IsErrOf result Broken → ⊥)
      → (IsErrOf result Full → ⊥) → (IsErrOf result Broken ↔ IsTrue broken)
      → (IsErrOf result Full ↔ (broken ≡ false) × (most < size))
      → (broken ≡ false) × (nat_lt most size ≡ false)
  neither result one two by_broken by_full =
      let sound = not_true broken (λ is. one (by_broken.1 is)) in
      (sound, not_true (nat_lt most size) (λ is. two (by_full.1 (sound, ltb-true most size is))))

  pub answered_so : (result : Result (Unit {0}) AppendError)
      → (IsErrOf result Broken ↔ IsTrue broken)
      → (IsErrOf result Full ↔ (broken ≡ false) × (most < size))
      → AnswersSo result broken (nat_lt most size)
  answered_so (Ok done) by_broken by_full =
      neither (Ok done) (λ is. absurd cc) (λ is. absurd cc) by_broken by_full
  answered_so (Err Failed) by_broken by_full =
      neither (Err Failed) (λ is. absurd cc) (λ is. absurd cc) by_broken by_full
  answered_so (Err Broken) by_broken by_full = by_broken.0 refl
  answered_so (Err Full) by_broken by_full =
      let full = by_full.0 refl in (full.0, lt-ltb most size full.1)
