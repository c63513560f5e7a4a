-- An outcome that is written out is that of a plan: step by step.
use Rattle.std.proofs.Common.{◌≡◌, ℕ, Bool, true, false, List, Option, Result, Ok, Err, refl}
use Rattle.std.proofs.Common.{if◌then◌else◌}
use Rattle.mtc_command.specs.Steps.{Files, Outcome, with_bytes, with_form}
use Rattle.command_plans.specs.Kinds.{Kinds}
use Rattle.command_plans.specs.Outcomes.{step_outcome}
use Rattle.command_plans.specs.Plans.{Input, Journal, Read, Step, in_form}

-- a file is read
pub bytes_same : (limit : ℕ) (file : List ℕ) (o : Option (List ℕ)) (one other : List ℕ → Outcome)
    → ((b : List ℕ) → one b ≡ other b) → with_bytes limit file o one ≡ with_bytes limit file o other
bytes_same limit file o one other same = λ i. with_bytes limit file o (λ b. same b i)

module _ {k : Kinds} {inputs : List Input} (journals : List (Journal k)) (files : Files) where
  -- its form is tested
  pub form_same : {F E : Type 0} (read : Read inputs) (fault_text : E → List ℕ) (r : Result F E)
      (wanted : F → Outcome) (next : F → Step inputs journals)
      → ((form : F) → wanted form ≡ step_outcome journals (next form) files)
      → with_form fault_text read.file.name r wanted
      ≡ step_outcome journals (in_form read fault_text r next) files
  form_same read fault_text (Ok form) wanted next same = same form
  form_same read fault_text (Err why) wanted next same = refl

  -- a test is made
  pub test_same : (test : Bool) (one other : Outcome) (yes_step no_step : Step inputs journals)
      → one ≡ step_outcome journals yes_step files → other ≡ step_outcome journals no_step files
      → (if test then one else other)
      ≡ step_outcome journals (if test then yes_step else no_step) files
  test_same true one other yes_step no_step so not = so
  test_same false one other yes_step no_step so not = not
