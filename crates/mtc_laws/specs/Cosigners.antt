-- Executions of a cosigner's journal, and what runs after one print.
use Rattle.std.specs.Prelude.{◌≡◌, ℕ, List, ◌∷◌, ◌++◌, Some, Ok}
use Rattle.byte_formats.specs.Types.{Hash, HashFunction, Text}
use Rattle.file_events.specs.Worlds.{Program, IsFileExecution}
use Rattle.mtc_words.specs.Commands.{export}
use Rattle.mtc_words.specs.Words.{command_of}
use Rattle.cosigner_core.specs.Records.{step_in}
use Rattle.cosigner_core.specs.declared.settings.CosignerSettings.{CosignerSettings}
use Rattle.cosigner_core.specs.declared.step.Step.TheVariants.{Sign}
use Rattle.party_history.specs.declared.start.PartyStart.TheVariants.{Cosigner}
use Rattle.mtc_top.specs.Executions.{owner, WasHeld, IsBegun, Run, FileEvent}

module _ (h : HashFunction) (p : Program) where
  -- The run ended with status 0, and all that it printed is this text, over an output of which the
  -- model knows what it took.
  pub record HasWritten (run : Run p.R p.O p.E) (text : Text) : Type 0 where
    pub done : run.status ≡ 0
    pub before : Text
    pub contents : p.outs.taken run.out ≡ Some before
    pub printed : p.outs.taken run.out_after ≡ Some (before ++ text)

  -- An execution of the journal of this name, which a run made or opened as that of a cosigner with
  -- these settings and this public key.
  pub record CosignerExecution : Type 0 where
    pub name : Text
    pub settings : CosignerSettings
    pub public : Text
    pub first : Text
    pub begins : p.R
    pub events : List (FileEvent p.R p.O p.E)
    pub begun : IsBegun h p name (Cosigner settings public) first begins events
    pub ends : p.R
    pub execution : IsFileExecution p (owner h p name) begins events ends

  -- A run of it found or added the record of a signature of this interval and hash.
  pub record HasSignRecord (x : CosignerExecution) (start end : ℕ) (hash : Hash) : Type 0 where
    pub prefix : List Text
    pub more : List Text
    pub body : Text
    pub held : WasHeld h p x.name x.begins x.events (x.first ∷ (prefix ++ body ∷ more))
    pub index : ℕ
    pub proof : List Text
    pub signs : step_in body ≡ Some (Sign index start end hash proof)

  -- A run of `export` after it printed this.
  pub record WasExported (x : CosignerExecution) (text : Text) : Type 0 where
    pub run : Run p.R p.O p.E
    pub has_run : p.HasRun x.ends run
    pub spoken : command_of run.words ≡ Ok (export x.name)
    pub written : HasWritten run text
