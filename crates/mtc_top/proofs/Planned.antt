-- What the arguments ask for is what comes of the plan of their command.
use Rattle.std.proofs.Common.{◌≡◌, Result, Ok, Err, refl}
use Rattle.byte_formats.specs.Types.{HashFunction}
use Rattle.mtc_words.specs.Commands.{CommandValue}
use Rattle.mtc_words.specs.declared.error.WordError.{WordError}
use Rattle.mtc_command.specs.Steps.{Files}
use Rattle.mtc_plans.proofs.Planned.{outcome_planned}
use Rattle.mtc_top.specs.Cited.{spoken_outcome}
use Rattle.mtc_top.specs.Facts.{facts}

module _ (h : HashFunction) where
  pub spoken_planned : (r : Result CommandValue WordError) (files : Files)
      → spoken_outcome h r files ≡ (facts h r).outcome files
  spoken_planned (Ok command) files = outcome_planned h command files
  spoken_planned (Err why) files = refl
