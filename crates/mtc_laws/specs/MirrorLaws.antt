-- The commands by which a mirror has a cosigner take a step: what they add, and their status 2.
use Rattle.std.specs.Prelude.{◌≡◌, ◌⊎◌, ℕ, List, [], ◌∷◌, ◌++◌, Some, Ok}
use Rattle.byte_formats.specs.Types.{HashFunction, Text}
use Rattle.file_events.specs.Events.{FirstHolds}
use Rattle.file_events.specs.Owners.{did_to}
use Rattle.file_events.specs.Worlds.{FileOwner, IsFileExecution, Program, own_events}
use Rattle.cosigner_core.specs.Folds.{CosignerState, cosigner_of}
use Rattle.journal_core.specs.Format.{Represents, end_offset}
use Rattle.mirror_core.specs.Folds.{MirrorState, mirror_of}
use Rattle.mirror_cosigner.specs.Agreement.{Agrees, IsAskedAdvance, IsAskedSign}
use Rattle.mtc_command.specs.Made.{appended}
use Rattle.mtc_words.specs.Commands.{CommandValue, mirror_advance, mirror_cosign}
use Rattle.mtc_words.specs.Words.{command_of}
use Rattle.cosigner_core.specs.declared.settings.CosignerSettings.{CosignerSettings}
use Rattle.mtc_io.specs.declared.sink.Sink.{Ghosts as Sinks}
use Rattle.party_history.specs.Rules.{StartsWith}
use Rattle.party_history.specs.declared.start.PartyStart.TheVariants.{Cosigner, Mirror}
use Rattle.mtc_laws.specs.ExecutionLaws.{OfExecutions}
use Rattle.mtc_laws.specs.StatusLaws.{IsAboutInput, LacksTile}
use Rattle.mtc_laws.specs.TileLaws.{tiled_journal}
use Rattle.mtc_laws.specs.PrintLaws.{OfEachRun, OfHeard}
use Rattle.mtc_top.specs.Executions.{FileEvent, IsBegun, Run, owner}

-- The command is `mirror-advance` or `mirror-cosign`, with the journals of these names.
abbrev pub StepsThrough : Text → Text → CommandValue → Type 0
StepsThrough name mirror command = ((size : ℕ) × (command ≡ mirror_advance name mirror size))
    ⊎ ((start : ℕ) × ((end : ℕ) × (command ≡ mirror_cosign name mirror start end)))

-- The record of a step that a mirror has a cosigner append, by the states of both and by where the
-- cosigner's last record ends.
abbrev pub AskedRecord : Type 1
AskedRecord = MirrorState → CosignerState → ℕ → Text → Type 0

module _ (h : HashFunction) (p : Program) where
  -- The run found the records of a mirror in the one journal, and those of a cosigner in the other.
  -- To these it added the record that the mirror asks. The records of both agree with it, if they
  -- did so before.
  pub record HasAskedStep (name mirror : Text) (IsAsked : AskedRecord) (old : p.R)
      (run : Run p.R p.O p.E) : Type 0 where
    pub held : Text
    pub there : p.rooms.file old mirror ≡ Some held
    pub shown : List Text
    pub stands : Represents held shown
    pub state : MirrorState
    pub is_mirror : mirror_of h shown ≡ Ok state
    pub list : List Text
    pub signs : CosignerState
    pub is_cosigner : cosigner_of h list ≡ Ok signs
    pub body : Text
    pub did : did_to p name old run ≡ appended list body
    pub asked : IsAsked state signs (end_offset list) body
    pub agrees : Agrees h shown list → Agrees h shown (list ++ body ∷ [])

  -- An Advance to this size, and a Sign of this interval.
  abbrev pub AdvanceTo : ℕ → AskedRecord
  AdvanceTo size s signs offset body =
      (asked : IsAskedAdvance h s signs offset body) × (asked.size ≡ size)

  abbrev pub SignOf : ℕ → ℕ → AskedRecord
  SignOf start end s signs offset body = (asked : IsAskedSign h s signs offset body)
      × ((asked.start ≡ start) × (asked.stop ≡ end))

  -- So did each run of `mirror-advance` and of `mirror-cosign` that did its work, or of which a
  -- byte may have gone out: by an Advance to its size, and by a Sign of its interval.
  abbrev pub StepsAreAsked : Type 0
  StepsAreAsked = (name mirror : Text)
      → ((size : ℕ) → OfEachRun h p (OfHeard h p (mirror_advance name mirror size)
      (HasAskedStep name mirror (AdvanceTo size))))
      × ((start end : ℕ) → OfEachRun h p (OfHeard h p (mirror_cosign name mirror start end)
      (HasAskedStep name mirror (SignOf start end))))

  -- This holds of each run of one of these commands with status 2, after an execution of the
  -- journal of a cosigner, and another one of a mirror's, by its owner of files.
  abbrev pub OfMisreadSteps : (Text → FileOwner p) → (Text → Text → p.R
      → List (FileEvent p.R p.O p.E) → Type 0)
      → (Text → CommandValue → p.R → Run p.R p.O p.E → Type 0) → Type 0
  OfMisreadSteps files Begins P = OfExecutions h p (λ name start first old events new.
      (settings : CosignerSettings) (public : Text) → start ≡ Cosigner settings public
      → (mirror begins : Text) (before : p.R) (others : List (FileEvent p.R p.O p.E))
      → Begins mirror begins before others → IsFileExecution p (files mirror) before others new
      → (command : CommandValue) (run : Run p.R p.O p.E) → StepsThrough name mirror command
      → p.HasRun new run → command_of run.words ≡ Ok command → run.status ≡ 2
      → P mirror command new run)

  -- It is about the first tile of the mirror's last size that the file of its tiles doesn't have.
  abbrev pub TilesAreMisread : Sinks p.E → Type 0
  TilesAreMisread errs = OfMisreadSteps (owner h p)
      (λ mirror begins before others. (log : Text) × IsBegun h p mirror (Mirror log) begins before
      others)
      (λ mirror command new run. (is : IsAboutInput h p errs mirror command new run)
      × LacksTile h (p.rooms.file new) mirror is.file is.reason)

  -- There is none where the execution is one of the mirror's journal with the file of its tiles,
  -- and begins with a run that made that journal, or that found its first record alone.
  abbrev pub NoMirrorTileIsBad : Type 0
  NoMirrorTileIsBad = OfMisreadSteps (tiled_journal h p)
      (λ mirror begins before others. (log : Text) × (StartsWith (Mirror log) begins
      × (p.rooms.is_modelled before
      × FirstHolds (begins ∷ []) (own_events p (owner h p mirror) before others))))
      (λ mirror command new run. ⊥)
