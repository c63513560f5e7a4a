-- How far its steps bring a cosigner: what it holds of its log, the number of the one-time key that
-- signs next, and how many lower trees its key has, of which height. It is the same of the records
-- of a journal and of the steps of an export.
use Rattle.std.specs.Prelude.{ℕ, zero, suc, ◌+◌, ◌*◌, ◌^◌, ◌==◌, ◌&&◌, nat_lt, Bool, true, false}
use Rattle.std.specs.Prelude.{List, [], ◌∷◌}
use Rattle.std.specs.Prelude.{Option, Some, None, option_map, option_and_then, is_some}
use Rattle.std.specs.Prelude.{if◌then◌else◌}
use Rattle.byte_formats.specs.Types.{HashFunction, Text}
use Rattle.tree_proofs.specs.Checkpoints.{empty_checkpoint, has_subtree, is_prefix_of}
use Rattle.lms_core.specs.Heights.{height, lms_code}
use Rattle.lms_core.specs.declared.heights.LmsType.{LmsType}
use Rattle.cosigner_core.specs.Records.{step_in}
use Rattle.cosigner_core.specs.declared.progress.Progress.{Progress}
use Rattle.cosigner_core.specs.declared.step.Step.{Step}
use Rattle.cosigner_core.specs.declared.step.Step.TheVariants.{Advance, Child, Sign}
use Rattle.cosigner_core.specs.declared.terms.KeyTerms.{KeyTerms}
use Rattle.cosigner_core.specs.declared.terms.KeyTerms.TheVariants.{OneLevel, TwoLevels}

-- The terms of a key with a tree of one height, and of the other one if it has lower trees.
abbrev pub terms_of : LmsType → Option LmsType → KeyTerms
terms_of lms None = OneLevel lms
terms_of lms (Some low) = TwoLevels lms (Some low)

-- the height of lower trees, which their first one shows
abbrev pub shown_low : ℕ → Option LmsType → Option LmsType
shown_low zero low = None
shown_low (suc children) low = low

-- how many one-time keys so many lower trees have
abbrev pub keys_below : Option LmsType → ℕ → ℕ
keys_below None children = 0
keys_below (Some low) children = children * 2 ^ height low

-- How many one-time keys may sign messages after so many steps.
abbrev pub keys_by : KeyTerms → Progress → ℕ
keys_by (OneLevel lms) p = 2 ^ height lms
keys_by (TwoLevels top low) p = keys_below p.low p.children

-- no entries are held, no one-time key has signed, and no lower tree is made
abbrev pub first_progress : HashFunction → Progress
first_progress h = record { held = empty_checkpoint h; next = 0; children = 0; low = None }

-- the height, where it is known, is this one
abbrev pub fits_height : Option LmsType → LmsType → Bool
fits_height None low = true
fits_height (Some known) low = lms_code known == lms_code low

-- The next lower tree may be made: the key has two levels, the number is that of the lower trees so
-- far, the upper tree has a one-time key for it, each one-time key of those lower trees has signed,
-- and the height is that of the lower trees.
abbrev pub takes_child : KeyTerms → Progress → ℕ → LmsType → Bool
takes_child (OneLevel lms) p child low = false
takes_child (TwoLevels top known) p child low =
    (child == p.children) && (nat_lt child (2 ^ height top)
    && ((p.next == keys_below p.low p.children)
    && (fits_height known low && fits_height p.low low)))

-- For a cosigner with a key of these terms: an Advance needs a larger size, and a proof that what
-- is held is a prefix of that log. A Sign needs the number of the next one-time key, which is
-- there, and a proof of the subtree in what is held. A Child needs a key that takes it.
abbrev pub is_allowed : HashFunction → KeyTerms → Progress → Step → Bool
is_allowed h terms p (Advance size root proof) =
    nat_lt p.held.size size && is_prefix_of h p.held size root proof
is_allowed h terms p (Sign index start end hash proof) =
    (index == p.next) && (nat_lt index (keys_by terms p)
    && has_subtree h p.held start end hash proof)
is_allowed h terms p (Child child low) = takes_child terms p child low

-- an Advance is held instead of what was held, a Sign counts one one-time key more, and a Child one
-- lower tree, whose height it shows
abbrev pub with_step : Progress → Step → Progress
with_step p (Advance size root proof) = record {
  held = record { size = size; root = root };
  next = p.next;
  children = p.children;
  low = p.low;
}
with_step p (Sign index start end hash proof) =
    record { held = p.held; next = p.next + 1; children = p.children; low = p.low }
with_step p (Child child low) =
    record { held = p.held; next = p.next; children = p.children + 1; low = Some low }

-- after one step more, if it is allowed
abbrev pub progress_after : HashFunction → KeyTerms → Progress → Step → Option Progress
progress_after h terms p step =
    if is_allowed h terms p step then Some (with_step p step) else None

-- after steps, each of which is allowed after those before it
unfoldable pub progress_by : HashFunction → KeyTerms → Progress → List Step → Option Progress
progress_by h terms p [] = Some p
progress_by h terms p (step ∷ steps) =
    option_and_then (λ q. progress_by h terms q steps) (progress_after h terms p step)

-- the steps that these records say, where each says one
unfoldable pub steps_in : List Text → Option (List Step)
steps_in [] = Some []
steps_in (body ∷ bodies) =
    option_and_then (λ step. option_map (λ steps. step ∷ steps) (steps_in bodies)) (step_in body)

-- How far the records after the first one bring a cosigner with a key of these terms, if they are
-- steps, each of which is allowed.
unfoldable pub progress_in : HashFunction → KeyTerms → List Text → Option Progress
progress_in h terms bodies =
    option_and_then (progress_by h terms (first_progress h)) (steps_in bodies)

-- These records may follow the first one of a cosigner with a key of these terms.
abbrev pub may_follow_cosigner : HashFunction → KeyTerms → List Text → Bool
may_follow_cosigner h terms bodies = is_some (progress_in h terms bodies)
