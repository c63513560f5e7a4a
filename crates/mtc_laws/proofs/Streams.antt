-- What is known of a command that may write while it reads its journals.
use Rattle.std.proofs.Common.{◌≡◌, ℕ, true, List, [], ◌∷◌, None, Result, Ok, Err, sym}
use Rattle.std.proofs.Common.{IsErr, false, refl, subst, true≢false}
use Rattle.byte_formats.specs.Types.{HashFunction}
use Rattle.mtc_words.specs.Commands.{CommandValue, tile_anew}
use Rattle.mtc_words.specs.declared.error.WordError.{WordError}
use Rattle.mtc_command.specs.Answers.{IsEarly, Reply, status_of}
use Rattle.mtc_command.specs.Made.{Journaled, untouched}
use Rattle.mtc_command.specs.Served.{OfEach, done_with}
use Rattle.mtc_command.specs.Steps.{Files}
use Rattle.mtc_command.specs.Wanted.{Meets}
use Rattle.command_plans.proofs.Facts.{unopened_early}
use Rattle.mtc_plans.specs.Commands.{plan_of}
use Rattle.mtc_plans.specs.PartyKinds.{party_kinds}
use Rattle.mtc_plans.specs.Streams.{AddsNone, AllAddNone}
use Rattle.mtc_plans.specs.Words.{streams, tiles_made_by}
use Rattle.mtc_plans.proofs.Streams.{streams_add_none, streams_make_none}
use Rattle.mtc_top.specs.Facts.{facts}

each_adds_none : (names : List (List ℕ)) (dids : List Journaled) → AllAddNone dids
    → OfEach (λ name did. AddsNone did) (done_with names dids)
each_adds_none [] dids none = tt
each_adds_none (name ∷ names) [] none = (tt, each_adds_none names [] tt)
each_adds_none (name ∷ names) (did ∷ dids) none = (none.0, each_adds_none names dids none.1)

module _ (h : HashFunction) where
  -- the arguments are a command
  pub is_command : (r : Result CommandValue WordError) → (facts h r).streams ≡ true → IsErr r → ⊥
  is_command (Ok command) may bad = true≢false (sym bad)
  is_command (Err why) may bad = true≢false (sym may)

  -- a command doesn't write while it reads
  pub plain_command : (command : CommandValue) {r : Result CommandValue WordError} → r ≡ Ok command
      → streams command ≡ false → (facts h r).streams ≡ false
  plain_command command spoken plain =
      subst (λ (r : Result CommandValue WordError). (facts h r).streams ≡ false) (sym spoken) plain

  pub adds_none : (r : Result CommandValue WordError) (files : Files)
      → (facts h r).streams ≡ true → OfEach (λ name did. AddsNone did)
      (done_with (facts h r).journals ((facts h r).outcome files).journals)
  adds_none (Ok command) files may = each_adds_none (facts h (Ok command)).journals
      ((facts h (Ok command)).outcome files).journals (streams_add_none h command files may)
  adds_none (Err why) files may = absurd (true≢false (sym may))

  pub makes_none : (r : Result CommandValue WordError) → (facts h r).streams ≡ true
      → (facts h r).makes ≡ None
  makes_none (Ok command) may = streams_make_none h command may
  makes_none (Err why) may = absurd (true≢false (sym may))

  -- and makes no tiles whole
  no_tiles : (command : CommandValue) → streams command ≡ true → tiles_made_by command ≡ None
  no_tiles (tile_anew journal) may = absurd (true≢false (sym may))
  no_tiles other may = refl

  pub whole_none : (r : Result CommandValue WordError) → (facts h r).streams ≡ true
      → (facts h r).whole ≡ None
  whole_none (Ok command) may = no_tiles command may
  whole_none (Err why) may = absurd (true≢false (sym may))

  -- a journal that isn't opened goes with a reply that may come before
  pub early_reply : (r : Result CommandValue WordError) (files : Files) (reply : Reply)
      → (facts h r).streams ≡ true → Meets ((facts h r).outcome files).answer reply
      → OfEach (λ name did. did ≡ untouched → IsEarly (status_of reply))
      (done_with (facts h r).journals ((facts h r).outcome files).journals)
  early_reply (Ok command) files reply may meets =
      unopened_early (party_kinds h) (plan_of h command) files reply meets
  early_reply (Err why) files reply may meets = absurd (true≢false (sym may))
