-- What comes of each step of an outcome.
use Rattle.std.proofs.Common.{◌≡◌, ◌≤◌, ◌<◌, ℕ, Bool, true, false, nat_lt, List, length, Option}
use Rattle.std.proofs.Common.{None, Some, Result, Ok, Err, codes, refl, if◌then◌else◌}
use Rattle.std.proofs.lemmas.Bool.{ltb-true, ltb-false}
use Rattle.mtc_command.specs.Steps.{Outcome, stops_at, with_bytes, with_file, with_form, with_fresh}
use Rattle.mtc_command.specs.declared.answer.Stopped.TheVariants.{BadForm, Beyond, Missing}
use Rattle.command_plans.specs.Outcomes.{unless_lacking}

module _ (P : Outcome → Type 0) where
  pub bytes_comes : (limit : ℕ) (file : List ℕ) (o : Option (List ℕ)) (next : List ℕ → Outcome)
      → (o ≡ None → P (stops_at Missing file (codes "Absent")))
      → ((b : List ℕ) → o ≡ Some b → limit < length b
      → P (stops_at Beyond file (codes "TooLong")))
      → ((b : List ℕ) → o ≡ Some b → length b ≤ limit → P (next b))
      → P (with_bytes limit file o next)
  bytes_comes limit file None next none long rest = none refl
  bytes_comes limit file (Some b) next none long rest = go (nat_lt limit (length b)) refl
    where
      go : (t : Bool) → nat_lt limit (length b) ≡ t
          → P (if t then stops_at Beyond file (codes "TooLong") else next b)
      go true is = long b refl (ltb-true limit (length b) is)
      go false is = rest b refl (ltb-false limit (length b) is)

  pub file_comes : (file : List ℕ) (o : Option (List ℕ)) (next : List ℕ → Outcome)
      → (o ≡ None → P (stops_at Missing file (codes "Absent")))
      → ((b : List ℕ) → o ≡ Some b → P (next b)) → P (with_file file o next)
  file_comes file None next none rest = none refl
  file_comes file (Some b) next none rest = rest b refl

  pub form_comes : {F E : Type 0} (fault_text : E → List ℕ) (file : List ℕ) (r : Result F E)
      (next : F → Outcome) → ((why : E) → r ≡ Err why → P (stops_at BadForm file (fault_text why)))
      → ((x : F) → r ≡ Ok x → P (next x)) → P (with_form fault_text file r next)
  form_comes fault_text file (Ok x) next bad rest = rest x refl
  form_comes fault_text file (Err why) next bad rest = bad why refl

  pub lacking_comes : (file : List ℕ) (o : Option (List ℕ)) (next : Outcome)
      → ((reason : List ℕ) → o ≡ Some reason → P (stops_at BadForm file reason))
      → (o ≡ None → P next) → P (unless_lacking file o next)
  lacking_comes file None next lacking rest = rest refl
  lacking_comes file (Some reason) next lacking rest = lacking reason refl

  pub fresh_comes : (file : List ℕ) (o : Option (List ℕ)) (next : Outcome)
      → ((b : List ℕ) → o ≡ Some b → P (stops_at Missing file (codes "Exists")))
      → (o ≡ None → P next) → P (with_fresh file o next)
  fresh_comes file None next there rest = rest refl
  fresh_comes file (Some b) next there rest = there b refl
