-- What a cosigner's steps hold and hash, and what that is of the list of entries that it has
-- signed.
use Rattle.std.specs.Prelude.{◌≡◌, ℕ, ◌≤◌, true, List, [], ◌∷◌, ◌++◌, length, take, Some}
use Rattle.std.specs.List.{flat_map}
use Rattle.byte_formats.specs.Types.{HashFunction, Text}
use Rattle.tree_core.specs.Tree.{tree_hash}
use Rattle.tree_core.specs.Path.{part_of}
use Rattle.tree_proofs.specs.declared.checkpoint.Checkpoint.{Checkpoint}
use Rattle.collide.specs.Extraction.{IsCollision}
use Rattle.collide.specs.Inputs.{inputs_of, open_inputs_of}
use Rattle.collide.specs.declared.finding.Finding.{Finding}
use Rattle.collide.specs.declared.finding.Finding.TheVariants.{Pair, Same}
use Rattle.cosigner_core.specs.Progress.{first_progress, progress_by, with_step}
use Rattle.cosigner_core.specs.declared.progress.Progress.{Progress}
use Rattle.cosigner_core.specs.declared.step.Step.{Step}
use Rattle.cosigner_core.specs.declared.step.Step.TheVariants.{Advance, Child, Sign}
use Rattle.cosigner_core.specs.declared.terms.KeyTerms.{KeyTerms}

-- How far steps bring a cosigner, whether they are allowed or not.
unfoldable pub with_steps : Progress → List Step → Progress
with_steps p [] = p
with_steps p (step ∷ steps) = with_steps (with_step p step) steps

-- What is held after all of these steps, and after so many of the first.
unfoldable pub held_by : HashFunction → List Step → Checkpoint
held_by h steps = (with_steps (first_progress h) steps).held

abbrev pub held_by_first : HashFunction → List Step → ℕ → Checkpoint
held_by_first h steps count = held_by h (take count steps)

-- Each step is allowed after those before it, to a cosigner with a key of some terms.
pub record AreSteps (h : HashFunction) (steps : List Step) : Type 0 where
  pub terms : KeyTerms
  pub done : Progress
  pub each : progress_by h terms (first_progress h) steps ≡ Some done

-- The first entries of a list are those of a checkpoint: there are as many, with its tree hash.
pub record HasPrefix (h : HashFunction) (entries : List Text) (c : Checkpoint) : Type 0 where
  pub within : c.size ≤ length entries
  pub root : tree_hash h (take c.size entries) ≡ c.root

-- The strings that are hashed in the opening of a step's proof, where this checkpoint is held. A
-- Child has no proof.
abbrev pub step_inputs : HashFunction → Checkpoint → Step → List Text
step_inputs h held (Advance size root proof) =
    open_inputs_of h 0 held.size size true held.root proof
step_inputs h held (Sign index start end hash proof) =
    open_inputs_of h start end held.size true hash proof
step_inputs h held (Child child low) = []

unfoldable pub inputs_from : HashFunction → Progress → List Step → List Text
inputs_from h p [] = []
inputs_from h p (step ∷ steps) =
    step_inputs h p.held step ++ inputs_from h (with_step p step) steps

-- The same of all proofs of a cosigner.
abbrev pub proof_inputs : HashFunction → List Step → List Text
proof_inputs h steps = inputs_from h (first_progress h) steps

-- The sizes of the checkpoints that a cosigner has held after the empty one.
unfoldable pub held_sizes : List Step → List ℕ
held_sizes [] = []
held_sizes (Advance size root proof ∷ steps) = size ∷ held_sizes steps
held_sizes (Sign index start end hash proof ∷ steps) = held_sizes steps
held_sizes (Child child low ∷ steps) = held_sizes steps

-- The strings that are hashed in the tree hash of so many of the first entries, for each of them.
abbrev pub prefix_inputs : HashFunction → List Text → List Step → List Text
prefix_inputs h entries steps = flat_map (λ m. inputs_of h (take m entries)) (held_sizes steps)

-- A Sign is of the list: the list's own entries in its interval have the signed hash.
abbrev pub IsOfList : HashFunction → List Text → Step → Type 0
IsOfList h entries (Advance size root proof) = Unit {0}
IsOfList h entries (Sign index start end hash proof) =
    tree_hash h (part_of entries start end) ≡ hash
IsOfList h entries (Child child low) = Unit {0}

-- These are two strings with one hash.
abbrev pub Shows : HashFunction → List Text → List Text → Finding → Type 0
Shows h firsts seconds Same = ⊥
Shows h firsts seconds (Pair x y) = IsCollision h firsts seconds x y

-- The step is a Sign.
abbrev pub IsSign : Step → Type 0
IsSign (Advance size root proof) = ⊥
IsSign (Sign index start end hash proof) = Unit {0}
IsSign (Child child low) = ⊥

-- The interval of a Sign lies within so many entries.
abbrev pub IsWithin : ℕ → Step → Type 0
IsWithin count (Advance size root proof) = Unit {0}
IsWithin count (Sign index start end hash proof) = (start ≤ end) × (end ≤ count)
IsWithin count (Child child low) = Unit {0}
