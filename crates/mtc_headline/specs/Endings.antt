-- How a run ended: whether a byte of its answer may have gone out, and whether it went well.
use Rattle.std.specs.Prelude.{◌≡◌, ◌≢◌, ◌⊎◌, ◌↔◌, ℕ, true, Option, None, Ok}
use Rattle.byte_formats.specs.Types.{Text}
use Rattle.mtc_io.specs.Counts.{Rose}
use Rattle.file_events.specs.Worlds.{Program, is_heard}
use Rattle.mtc_words.specs.Commands.{CommandValue}
use Rattle.mtc_words.specs.Words.{command_of}
use Rattle.mtc_laws.specs.RunLaws.{TookSome}
use Rattle.mtc_top.specs.Executions.{Run}

-- A byte of the answer may have gone out: the run did its work; or standard output took a byte; or
-- standard output failed, and the model doesn't know what it took.
abbrev pub MayHaveSent : ℕ → Option Text → Option Text → Type 0
MayHaveSent status old new =
    (status ≡ 0) ⊎ (TookSome old new ⊎ ((status ≡ 6) × (old ≡ None)))

-- Exactly then a run is heard.
abbrev pub HeardIsSent : Type 0
HeardIsSent = (status : ℕ) (old new : Option Text)
    → is_heard status old new ≡ true ↔ MayHaveSent status old new

module _ (p : Program) where
  -- This holds of each run by this command of which a byte may have gone out.
  abbrev pub OfSent : CommandValue → (p.R → Run p.R p.O p.E → Type 0) → p.R
      → Run p.R p.O p.E → Type 0
  OfSent command P old run = command_of run.words ≡ Ok command
      → MayHaveSent run.status (p.outs.taken run.out) (p.outs.taken run.out_after) → P old run

  -- The run found memory, and no file and no standard output failed it.
  pub record WentWell (old : p.R) (run : Run p.R p.O p.E) : Type 0 where
    pub memory : run.status ≢ 8
    pub files : Rose (p.rooms.faults old) (p.rooms.faults run.room) → ⊥
    pub output : Rose (p.outs.faults run.out) (p.outs.faults run.out_after) → ⊥

  -- Its status says so.
  abbrev pub GoodRunsAnswer : Type 0
  GoodRunsAnswer = (old : p.R) (run : Run p.R p.O p.E) → p.HasRun old run → WentWell old run
      → (run.status ≢ 5) × (run.status ≢ 6) × (run.status ≢ 8)
