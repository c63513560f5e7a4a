-- A mirror and the cosigner that takes its steps from it alone: what is recovered of both, whatever
-- runs and stops came between.
use Rattle.std.specs.Prelude.{◌≡◌, ◌⊎◌, ℕ, false, List, drop, None, Some, Ok}
use Rattle.byte_formats.specs.Types.{HashFunction, Text}
use Rattle.cosigner_core.specs.Progress.{steps_in}
use Rattle.cosigner_core.specs.declared.lists.Export.{Export}
use Rattle.file_events.specs.Events.{MayRecover, StatesRepresent}
use Rattle.file_events.specs.Owners.{RunsMayBreak, did_to, mirror_files}
use Rattle.file_events.specs.Worlds.{FileOwner, IsFileExecution, IsOneFile, Program, states_of}
use Rattle.mirror_core.specs.Folds.{MirrorState, entries_in_mirror, mirror_of}
use Rattle.mirror_cosigner.specs.Agreement.{Agrees, IsAskedStep, IsChildRecord}
use Rattle.mtc_words.specs.Commands.{CommandValue, child}
use Rattle.mtc_words.specs.Names.{is_tiles_name}
use Rattle.mtc_words.specs.Words.{command_of}
use Rattle.mtc_command.specs.Made.{reads, untouched}
use Rattle.party_history.specs.Rules.{AreRecords}
use Rattle.policy_core.specs.declared.answer.By.TheVariants.{Cosigners}
use Rattle.world_core.specs.Audit.{AuditCase, foreign_of}
use Rattle.mtc_laws.specs.MirrorLaws.{StepsThrough}
use Rattle.mtc_top.specs.Executions.{FileEvent, Run}

module _ (h : HashFunction) (p : Program) (mirror signer : Text) where
  -- By this command the mirror has the cosigner take a step, or the cosigner makes a lower tree.
  abbrev pub KeepsToMirror : CommandValue → Type 0
  KeepsToMirror command = (name : Text) × (IsOneFile p name signer
      × (((journal : Text) × (IsOneFile p journal mirror × StepsThrough name journal command))
      ⊎ (command ≡ child name)))

  -- A run doesn't open the cosigner's journal; or it reads that one, and doesn't open the mirror's;
  -- or it is by such a command.
  abbrev pub LeavesItToMirror : p.R → Run p.R p.O p.E → Type 0
  LeavesItToMirror old run = (did_to p signer old run ≡ untouched)
      ⊎ (((did_to p mirror old run ≡ untouched)
      × ((list : List Text) × (did_to p signer old run ≡ reads list)))
      ⊎ ((command : CommandValue)
      × ((command_of run.words ≡ Ok command) × KeepsToMirror command)))

  -- The program where each run does so.
  abbrev pub mirror_program : Program
  mirror_program = record {
    R = p.R;
    S = p.S;
    D = p.D;
    O = p.O;
    E = p.E;
    rooms = p.rooms;
    disks = p.disks;
    outs = p.outs;
    HasRun = λ old run. p.HasRun old run × LeavesItToMirror old run;
    journals = p.journals;
  }

  -- The journals of both. Of a program that is killed it is supposed that it leaves of both at once
  -- what a run leaves that broke off, and that a record that it was about to add to the cosigner's
  -- journal is a Child, or one that the mirror asks by the records that were found in both. Where
  -- the machine stops in the middle of a run, the program is killed there, and then the machine
  -- stops.
  abbrev pub both_journals : FileOwner mirror_program
  both_journals = mirror_files mirror_program (Agrees h) (IsAskedStep h)
      (λ steps body. IsChildRecord body) (AreRecords h) (AreRecords h) mirror signer

  -- Each crash state of the mirror's journal represents some items, and each of the cosigner's some
  -- steps, and these agree. Neither has the name of a file of tiles.
  pub record BothAgree (room : p.R) : Type 0 where
    pub mirror_own : is_tiles_name mirror ≡ false
    pub signer_own : is_tiles_name signer ≡ false
    pub items : List Text
    pub has_items : StatesRepresent (states_of p mirror room) items
    pub steps : List Text
    pub has_steps : StatesRepresent (states_of p signer room) steps
    pub agree : Agrees h items steps

  -- This holds of all that is recovered of both, after each execution from there on.
  abbrev pub OfBothRecovered : (List Text → List Text → Type 0) → Type 0
  OfBothRecovered P = (old new : p.R) (events : List (FileEvent p.R p.O p.E))
      → p.rooms.is_modelled old → BothAgree old
      → IsFileExecution mirror_program both_journals old events new → (items steps : List Text)
      → MayRecover (states_of p mirror new) items → MayRecover (states_of p signer new) steps
      → P items steps

  -- Each run, whatever its status, leaves what is supposed of one that is killed, where the
  -- journals are two files.
  abbrev pub RunsOnBothMayBreak : Type 0
  RunsOnBothMayBreak = is_tiles_name mirror ≡ false → is_tiles_name signer ≡ false
      → (IsOneFile p mirror signer → ⊥) → RunsMayBreak mirror_program both_journals

module _ (h : HashFunction) (p : Program) where
  -- The records of both agree.
  abbrev pub MirrorsAgree : Type 0
  MirrorsAgree = (mirror signer : Text) → OfBothRecovered h p mirror signer (Agrees h)

  -- So an audit of the mirror's entries with the cosigner's steps never finds the list to be
  -- another one, for what was accepted by cosigners.
  abbrev pub MirrorsAreNeverForeign : Type 0
  MirrorsAreNeverForeign = (mirror signer : Text) → OfBothRecovered h p mirror signer
      (λ items steps. (m : MirrorState) (x : AuditCase) (e : Export) (set : ℕ)
      → mirror_of h items ≡ Ok m → x.items.entries ≡ entries_in_mirror m → x.kept ≡ Some e
      → steps_in (drop 1 steps) ≡ Some e.steps → x.accepted.by ≡ Cosigners set
      → foreign_of h x ≡ None)

  abbrev pub MirrorsMayBreak : Type 0
  MirrorsMayBreak = (mirror signer : Text) → RunsOnBothMayBreak h p mirror signer
