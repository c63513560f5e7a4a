-- What a cosigner's own steps show against it.
use Rattle.std.specs.Prelude.{◌≡◌, List, Some, None}
use Rattle.byte_formats.specs.Types.{HashFunction}
use Rattle.collide.specs.Extraction.{IsCollision}
use Rattle.cosigner_core.specs.declared.step.Step.{Step}
use Rattle.cosigner_steps.specs.Steps.{proof_inputs}
use Rattle.quarrel_core.specs.declared.answer.Quarrel.{Quarrel}
use Rattle.quarrel_core.specs.declared.answer.Quarrel.TheVariants.{Agree, Pair}
use Rattle.quarrel_core.specs.Conflicts.{conflict_in, quarrel_of}

-- No two Signs are in conflict; or these are the keys of the first that are, with two strings that
-- have one hash, both hashed in the opening of the steps' proofs.
abbrev pub IsQuarrel : HashFunction → List Step → Quarrel → Type 0
IsQuarrel h steps Agree = conflict_in steps ≡ None
IsQuarrel h steps (Pair first second x y) =
    (quarrel_of steps ≡ Some (first, second))
    × IsCollision h (proof_inputs h steps) (proof_inputs h steps) x y
