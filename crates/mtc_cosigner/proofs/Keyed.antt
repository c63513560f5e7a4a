-- The work on a cosigner whose key is made for it.
use Rattle.std.proofs.Common.{◌≡◌, subst, sym}
use Rattle.byte_formats.specs.Types.{Text}
use Rattle.disk_core.specs.declared.disk.Disk.{Ghosts}
use Rattle.journal_core.specs.Owners.{Owner}
use Rattle.cosigner_core.specs.Folds.{CosignerState}
use Rattle.cosigner_core.specs.Openings.{FoundCosigner}
use Rattle.mtc_command.specs.Answers.{Ending}
use Rattle.mtc_command.specs.Steps.{Outcome}
use Rattle.mtc_cosigner.specs.Works.{HasWorkedOnCosigner}

module _ {D : Type 0} (g : Ghosts D) (name : Text) (says : FoundCosigner → Outcome)
    (bare keyed : Owner D CosignerState) (same : keyed ≡ bare) (done left : D)
    (closed : left ≡ done) where
  -- what is done with its key is done with the cosigner
  pub with_key : (ending : Ending) → HasWorkedOnCosigner g name says keyed done ending
      → HasWorkedOnCosigner g name says bare left ending
  with_key ending work = subst (λ (it : Owner D CosignerState).
      HasWorkedOnCosigner g name says it left ending) same
      (subst (λ (d : D). HasWorkedOnCosigner g name says keyed d ending) (sym closed) work)
