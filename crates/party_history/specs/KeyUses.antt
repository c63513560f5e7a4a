-- Which one-time keys the records of a cosigner's journal use.
use Rattle.std.specs.Prelude.{◌≡◌, ℕ, List, ◌∷◌, ◌++◌, Some}
use Rattle.byte_formats.specs.Types.{Hash, Text}
use Rattle.cosigner_core.specs.Counts.{AreCounted, FollowsItsTree}
use Rattle.cosigner_core.specs.Records.{step_in}
use Rattle.cosigner_core.specs.declared.settings.CosignerSettings.{CosignerSettings}
use Rattle.cosigner_core.specs.declared.step.Step.{Step}
use Rattle.cosigner_core.specs.declared.step.Step.TheVariants.{Advance, Child, Sign}

-- Both steps use one one-time key. Signs with one number use one key of the only tree, or of one
-- lower tree, as these have their keys one after the other. Children with one number use one key of
-- the upper tree.
abbrev pub UseOneKey : Step → Step → Type 0
UseOneKey (Advance size root proof) other = ⊥
UseOneKey (Sign index start end hash proof) (Advance size root shown) = ⊥
UseOneKey (Sign index start end hash proof) (Sign number from to node shown) = index ≡ number
UseOneKey (Sign index start end hash proof) (Child child low) = ⊥
UseOneKey (Child child low) (Advance size root proof) = ⊥
UseOneKey (Child child low) (Sign index start end hash proof) = ⊥
UseOneKey (Child child low) (Child number height) = child ≡ number

-- The records after the first one of a cosigner's journal use its one-time keys in their order: the
-- i-th Sign record, counted from 0, has the number i, and so has the i-th Child record. Each Sign
-- follows the Child of its lower tree, if there are lower trees.
pub record UseKeysInOrder (settings : CosignerSettings) (bodies : List Text) : Type 0 where
  pub counted : AreCounted bodies
  pub trees : (before after : List Text) (body : Text) (index start end : ℕ) (hash : Hash)
      (proof : List Hash) → bodies ≡ before ++ body ∷ after
      → step_in body ≡ Some (Sign index start end hash proof)
      → FollowsItsTree settings.lms settings.low before index
