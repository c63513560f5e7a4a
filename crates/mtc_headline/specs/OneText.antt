-- One key signs one text.
use Rattle.std.specs.Prelude.{◌≡◌}
use Rattle.byte_formats.specs.Types.{HashFunction}
use Rattle.file_events.specs.Worlds.{EachRun, Program}
use Rattle.mtc_words.specs.Commands.{CommandValue}
use Rattle.mtc_cosigner.specs.CosignerOutcomes.{cosigned_text}
use Rattle.mtc_top.specs.Executions.{Run}
use Rattle.mtc_laws.specs.Cosigners.{CosignerExecution}
use Rattle.mtc_laws.specs.PrintLaws.{HasCosigned, Signs}
use Rattle.mtc_headline.specs.Endings.{OfSent}

module _ (h : HashFunction) (p : Program) where
  -- Both runs signed. If their records have one number, both signed one interval with one hash, and
  -- one text went out of both.
  pub record SignOneText (x : CosignerExecution h p) (old : p.R) (run : Run p.R p.O p.E)
      (before : p.R) (other : Run p.R p.O p.E) : Type 0 where
    pub one : HasCosigned h p x.name old run
    pub two : HasCosigned h p x.name before other
    pub same : one.state.key.next ≡ two.state.key.next
        → (one.request.start ≡ two.request.start) × (one.request.end ≡ two.request.end)
        × (one.request.hash ≡ two.request.hash)
        × (cosigned_text one.state one.request ≡ cosigned_text two.state two.request)

  -- This holds of each two runs of an execution that handed out a signature.
  abbrev pub OneKeySignsOneText : Type 0
  OneKeySignsOneText = (x : CosignerExecution h p) (command again : CommandValue)
      → Signs x.name command → Signs x.name again
      → EachRun p (OfSent p command (λ old run.
      EachRun p (OfSent p again (SignOneText x old run)) x.begins x.events)) x.begins x.events
