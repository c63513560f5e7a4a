-- What holds of the list that a cosigner has signed, for a hash function h.
use Rattle.std.specs.Prelude.{◌≡◌, ◌⊎◌, List, length, Contains}
use Rattle.std.specs.List.{AllByRecursion}
use Rattle.byte_formats.specs.Types.{HashFunction, Text}
use Rattle.cosigner_core.specs.declared.step.Step.{Step}
use Rattle.cosigner_core.specs.declared.step.Step.TheVariants.{Advance, Child, Sign}
use Rattle.collide.specs.Extraction.{HasCollision}
use Rattle.cosigner_steps.specs.Steps.{AreSteps, HasPrefix, IsOfList, prefix_inputs, held_by}
use Rattle.cosigner_steps.specs.Steps.{proof_inputs}

-- Each hash in the proof of a step has 32 bytes. A Child has no proof.
abbrev pub HasHashes : Step → Type 0
HasHashes (Advance size root proof) = AllByRecursion (λ hash. length hash ≡ 32) proof
HasHashes (Sign index start end hash proof) = AllByRecursion (λ hash. length hash ≡ 32) proof
HasHashes (Child child low) = Unit {0}

-- If a list begins with what a cosigner holds after all of its steps, each Sign among them is of
-- the list, or the list and the proofs of the steps show two strings with one hash.
abbrev pub OneListAfter : HashFunction → Type 0
OneListAfter h = (entries : List Text) (steps : List Step) (step : Step) → AreSteps h steps
    → AllByRecursion HasHashes steps → HasPrefix h entries (held_by h steps) → Contains steps step
    → IsOfList h entries step
    ⊎ HasCollision h (prefix_inputs h entries steps) (proof_inputs h steps)
