-- What a record makes of the machine of a log.
use Rattle.std.proofs.Common.{◌≡◌, ℕ, ◌+◌, List, ◌++◌, length, Option, Some, Result, Ok, Err}
use Rattle.std.proofs.Common.{refl, ap, sym, subst, ◌∙◌, arith}
use Rattle.std.specs.Prelude.{IfErr}
use Rattle.std.proofs.lemmas.List.{length-append}
use Rattle.std.proofs.lemmas.Option.{same_Some}
use Rattle.byte_formats.specs.Types.{HashFunction, Text}
use Rattle.state_journal.specs.Steps.{HasNextMachine, TakesRecord}
use Rattle.state_journal.specs.declared.error.Misfit.{Misfit}
use Rattle.state_journal.specs.declared.error.Misfit.TheVariants.{Memory, Unfit}
use Rattle.byte_formats.proofs.Values.{when_some}
use Rattle.issuance_log.specs.Folds.{LogView, next_view, takes_log_step, view_by_step}
use Rattle.issuance_log.specs.Items.{AreBelow}
use Rattle.issuance_log.specs.LogSteps.{LogStep, adds_items, log_step_in, sets_mark, stores_tiles}
use Rattle.issuance_log.specs.LogSteps.{switches, unknown_step}
use Rattle.issuance_log.specs.ItemOffsets.{before_items, places_in}
use Rattle.issuance_log.specs.Records.{added_items}
use Rattle.issuance_log.proofs.Inside.{length-places}
use Rattle.issuance_log.proofs.Standing.{below_items, below_more}
use Rattle.issuance_log.proofs.Steps.{items_of_step, step_items_are}

-- ---- what a record makes of the numbers

-- it has as many items more as the record
size_step : (v : LogView) (x : LogStep)
    → (view_by_step x v).size ≡ v.size + length (items_of_step x)
size_step v (adds_items items) = refl
size_step v (sets_mark size) = omega arith
size_step v (stores_tiles size) = omega arith
size_step v (switches index) = omega arith
size_step v unknown_step = omega arith

size_next : (h : HashFunction) (v w : LogView) (body : Text) → next_view h v body ≡ Some w
    → w.size ≡ v.size + length (added_items body)
unfolding next_view
size_next h v w body is =
    let x = log_step_in body in
    let made = when_some (takes_log_step h v x) (Some (view_by_step x v)) w is in
    sym (ap (λ (u : LogView). u.size) (same_Some (view_by_step x v) w made.1)) ∙ size_step v x
    ∙ ap (λ (l : List (Text × Text)). v.size + length l) (sym (step_items_are body))

-- ---- what is retained of the items

pub counted_next : (h : HashFunction) (v w : LogView) (body : Text) (offsets offsets' : List ℕ)
    (place : ℕ) → next_view h v body ≡ Some w → length offsets ≡ v.size
    → offsets' ≡ offsets ++ places_in place body
    → length offsets' ≡ w.size
counted_next h v w body offsets offsets' place next counted are =
    let count = length-places (place + before_items body) (added_items body) in
    let sum = length-append offsets (places_in place body) in
    let size = size_next h v w body next in
    ap (λ (l : List ℕ). length l) are ∙ sum ∙ omega arith

pub below_next : (body : Text) (offsets offsets' : List ℕ) (place : ℕ)
    → AreBelow offsets (place + 1)
    → offsets' ≡ offsets ++ places_in place body
    → AreBelow offsets' (place + 5 + length body + 1)
below_next body offsets offsets' place below are =
    subst (λ (l : List ℕ). AreBelow l (place + 5 + length body + 1)) (sym are)
    (below_more offsets (places_in place body) (place + 1) (place + 5 + length body + 1) below
    (omega arith) (below_items body place (place + 5 + length body + 1) (omega arith)))

-- ---- by the answer

-- The record was taken, and the machine continues or stops for its tiles.
pub taken_so : {M S : Type 0} (takes : S → Text → Option S) (state : M → S)
    (Keeps : M → List Text → Type 0) (place : ℕ) (body : Text) (old new : M)
    (result : Result (Unit {0}) Misfit) → IfErr result (λ why. why ≡ Memory)
    → HasNextMachine takes state Keeps place body old new
    → TakesRecord takes state Keeps place body old new result
taken_so takes state Keeps place body old new (Ok done) stops next = next
taken_so takes state Keeps place body old new (Err Unfit) stops next =
    let wrong : Unfit ≡ Memory = stops in absurd cc
taken_so takes state Keeps place body old new (Err Memory) stops next = tt
