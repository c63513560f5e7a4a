-- Every outcome of a plan is one of six.
use Rattle.std.proofs.Common.{◌≡◌, inl, inr}
use Rattle.mtc_command.specs.Steps.{Files}
use Rattle.command_plans.specs.Comes.{Comes, absent, does, exists, misread, no_party, too_long}
use Rattle.command_plans.specs.Facts.{OutcomesCome}
use Rattle.command_plans.specs.Found.{AreRead}
use Rattle.command_plans.specs.Kinds.{Kinds}
use Rattle.command_plans.specs.Outcomes.{step_outcome}
use Rattle.command_plans.specs.Plans.{Plan, ReadAll, Step, misreads, works}
use Rattle.command_plans.proofs.Opening.{open_comes}
use Rattle.command_plans.proofs.Reading.{read_comes}
use Rattle.std.proofs.Common.{refl}

module _ {k : Kinds} (plan : Plan k) (files : Files) where
  step_comes : (reads : ReadAll plan.inputs) → AreRead files plan.inputs plan.inputs reads
      → (step : Step plan.inputs plan.journals) → plan.steps reads ≡ step
      → Comes plan files (step_outcome plan.journals step files)
  step_comes reads are (misreads read reason) is = misread reads are read reason is
  step_comes reads are (works say) is =
      open_comes (Comes plan files) files plan.journals _ (λ file named. absent file (inr named))
      exists no_party (does reads are say is)

pub outcomes_come : (k : Kinds) → OutcomesCome k
outcomes_come k plan files =
    read_comes (Comes plan files) files plan.inputs (λ file named. absent file (inl named))
    too_long plan.inputs (λ input is. is) _
    (λ reads are. step_comes plan files reads are (plan.steps reads) refl)
