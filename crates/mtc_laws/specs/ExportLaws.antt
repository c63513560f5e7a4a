-- What a run of `export` prints after an execution.
use Rattle.std.specs.Prelude.{◌≡◌, true, List, ◌∷◌, ◌++◌, drop, Some, Ok, Contains}
use Rattle.byte_formats.specs.Types.{HashFunction, Text}
use Rattle.file_events.specs.Worlds.{Program, EachRun, states_of, heard_of}
use Rattle.file_events.specs.Owners.{did_to}
use Rattle.file_events.specs.Events.{MayRecover}
use Rattle.mtc_words.specs.Commands.{export}
use Rattle.mtc_words.specs.Words.{command_of}
use Rattle.cosigner_core.specs.ExportReading.{export_in, export_progress}
use Rattle.cosigner_core.specs.Exports.{export_text, records_text}
use Rattle.cosigner_core.specs.Folds.{CosignerState, cosigner_of}
use Rattle.cosigner_core.specs.Records.{step_in}
use Rattle.cosigner_core.specs.Progress.{steps_in}
use Rattle.cosigner_core.specs.declared.lists.Export.{Export}
use Rattle.cosigner_core.specs.declared.progress.Progress.{Progress}
use Rattle.cosigner_core.specs.declared.settings.CosignerSettings.{CosignerSettings}
use Rattle.cosigner_core.specs.declared.step.Step.{Step}
use Rattle.mtc_command.specs.Made.{reads}
use Rattle.party_history.specs.declared.start.PartyStart.TheVariants.{Cosigner}
use Rattle.mtc_laws.specs.ExecutionLaws.{OfExecutions}
use Rattle.mtc_laws.specs.PrintLaws.{OfHeard}
use Rattle.mtc_top.specs.Executions.{WasHeld, HasStreamed, Run, FileEvent}

module _ (h : HashFunction) (p : Program) where
  -- What went out is the export of a list with which the journal might have been recovered then,
  -- and which the run read. It has the ids of the settings and this public key. It is read as the
  -- steps of these records, each of which is allowed, and the step of each record that a run held
  -- before is among them.
  pub record HasExported (settings : CosignerSettings) (public name : Text) (begun : p.R)
      (events : List (FileEvent p.R p.O p.E)) (old : p.R) (run : Run p.R p.O p.E) : Type 0 where
    pub list : List Text
    pub recovered : MayRecover (states_of p name old) list
    pub was_read : did_to p name old run ≡ reads list
    pub state : CosignerState
    pub state_is : cosigner_of h list ≡ Ok state
    pub text : Text
    pub text_is : text ≡ export_text state list
    pub printed : HasStreamed p run text
    pub export : Export
    pub read : export_in h text ≡ Ok (Some export)
    pub cosigner_is : export.cosigner ≡ settings.id
    pub log_is : export.log ≡ settings.log
    pub key_is : export.public ≡ public
    pub progress : Progress
    pub allowed : export_progress h export ≡ Some progress
    pub steps : steps_in (drop 1 list) ≡ Some export.steps
    pub signed : (first : Text) (prefix more : List Text) (body : Text) (step : Step)
        → WasHeld h p name begun events (first ∷ (prefix ++ body ∷ more))
        → step_in body ≡ Some step → Contains export.steps step

  -- This holds of each run of `export` after an execution of a cosigner's journal that did its
  -- work, or of which a byte may have gone out.
  abbrev pub ExportsHoldTheSteps : Type 0
  ExportsHoldTheSteps = OfExecutions h p (λ name start first old events new.
      (settings : CosignerSettings) (public : Text) → start ≡ Cosigner settings public
      → (run : Run p.R p.O p.E) → p.HasRun new run
      → command_of run.words ≡ Ok (export name) → heard_of p run ≡ true
      → HasExported settings public name old events new run)

  -- The earlier run read these records and printed their export. The later one, which began with
  -- `new`, read these and the rest after them, and printed what the earlier one did and the rest
  -- after it. It is the whole text of a run that ended with status 0.
  pub record HasMoreThan (name : Text) (old : p.R) (earlier : Run p.R p.O p.E) (new : p.R)
      (later : Run p.R p.O p.E) : Type 0 where
    pub list : List Text
    pub read : did_to p name old earlier ≡ reads list
    pub rest : List Text
    pub later_read : did_to p name new later ≡ reads (list ++ rest)
    pub state : CosignerState
    pub state_is : cosigner_of h list ≡ Ok state
    pub before : HasStreamed p earlier (export_text state list)
    pub now : HasStreamed p later (export_text state list ++ records_text rest)

  -- This holds of each run of `export` after an execution of a cosigner's journal, and of each
  -- before it in the execution, that did its work, or of which a byte may have gone out.
  abbrev pub ExportsOnlyGrow : Type 0
  ExportsOnlyGrow = OfExecutions h p (λ name start first old events new.
      (settings : CosignerSettings) (public : Text) → start ≡ Cosigner settings public
      → (run : Run p.R p.O p.E) → p.HasRun new run
      → command_of run.words ≡ Ok (export name) → heard_of p run ≡ true
      → EachRun p (OfHeard h p (export name)
      (λ before earlier. HasMoreThan name before earlier new run)) old events)
