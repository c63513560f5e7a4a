-- That what the laws suppose comes about: from plain facts of runs and files to each record that
-- stands in a premise of the headline.
use Rattle.std.specs.Prelude.{◌≡◌, ◌≢◌, ◌⊎◌, ◌≤◌, ℕ, List, [], ◌∷◌, ◌++◌, length, Some, Ok}
use Rattle.byte_formats.specs.Types.{HashFunction, Text}
use Rattle.mtc_io.specs.Counts.{Rose}
use Rattle.mtc_room.specs.Room.{Stays}
use Rattle.file_events.specs.Events.{EventHolds}
use Rattle.file_events.specs.Worlds.{IsFileEvent, IsOneFile, Program, exited, files_after}
use Rattle.file_events.specs.Worlds.{states_of, stops, writes}
use Rattle.cosigner_core.specs.declared.settings.CosignerSettings.{CosignerSettings}
use Rattle.entry_list.specs.Items.{ItemLists}
use Rattle.entry_list.specs.Reading.{items_in}
use Rattle.party_history.specs.Rules.{StartsWith}
use Rattle.party_history.specs.declared.start.PartyStart.TheVariants.{Cosigner}
use Rattle.policy_core.specs.Files.{store_of}
use Rattle.policy_core.specs.declared.store.Store.{Store}
use Rattle.mtc_words.specs.Commands.{audit, cosign, export, mirror_cosign, verify}
use Rattle.mtc_words.specs.Words.{command_of}
use Rattle.mtc_top.specs.Executions.{FileEvent, HasPrinted, HasStreamed, Run, owner}
use Rattle.mtc_laws.specs.CertLaws.{HasVerified}
use Rattle.mtc_laws.specs.Cosigners.{CosignerExecution, HasWritten, WasExported}
use Rattle.mtc_laws.specs.PrintLaws.{Signs}
use Rattle.mtc_headline.specs.AuditRuns.{IsAuditRun}
use Rattle.mtc_headline.specs.Endings.{WentWell}

-- Both commands that sign are commands that sign.
abbrev pub SigningCommandsSign : Type 0
SigningCommandsSign = (name file mirror : Text) (start end : ℕ)
    → Signs name (cosign name file) × Signs name (mirror_cosign name mirror start end)

module _ (h : HashFunction) (p : Program) where
  -- ---- what went out

  -- What went out of a run with status 0, over an output of which the model knows what it took,
  -- was written.
  abbrev pub PrintedIsWritten : Type 0
  PrintedIsWritten = (run : Run p.R p.O p.E) (text before : Text)
      → HasPrinted p run text ⊎ HasStreamed p run text → run.status ≡ 0
      → p.outs.taken run.out ≡ Some before → HasWritten h p run text

  -- So a run of `export` after an execution, with status 0 and over such an output, has exported a
  -- text.
  abbrev pub ExportsAreGiven : Type 0
  ExportsAreGiven = (x : CosignerExecution h p) (run : Run p.R p.O p.E) (before : Text)
      → p.HasRun x.ends run → command_of run.words ≡ Ok (export x.name) → run.status ≡ 0
      → p.outs.taken run.out ≡ Some before → (text : Text) × WasExported h p x text

  -- ---- executions

  -- There is an execution of this journal: of a cosigner with these settings and this public key,
  -- whose first record is this one, by these events.
  pub record HasExecution (name : Text) (settings : CosignerSettings) (public first : Text)
      (old : p.R) (events : List (FileEvent p.R p.O p.E)) (new : p.R) : Type 0 where
    pub x : CosignerExecution h p
    pub name_is : x.name ≡ name
    pub settings_is : x.settings ≡ settings
    pub public_is : x.public ≡ public
    pub first_is : x.first ≡ first
    pub begins_is : x.begins ≡ old
    pub events_is : x.events ≡ events
    pub ends_is : x.ends ≡ new

  -- A run that found or made a cosigner's journal begins an execution of it.
  abbrev pub ExecutionsBegin : Type 0
  ExecutionsBegin = (name : Text) (settings : CosignerSettings) (public first : Text)
      (others : List Text) (old : p.R) (run : Run p.R p.O p.E) → p.rooms.is_modelled old
      → p.HasRun old run → EventHolds (first ∷ others) ((owner h p name).run_event old run)
      → StartsWith (Cosigner settings public) first
      → HasExecution name settings public first old (exited run ∷ []) run.room

  -- Whatever happens next continues it.
  abbrev pub ExecutionsGoOn : Type 0
  ExecutionsGoOn = (x : CosignerExecution h p) (event : FileEvent p.R p.O p.E)
      → IsFileEvent p (owner h p x.name) x.ends event
      → HasExecution x.name x.settings x.public x.first x.begins (x.events ++ event ∷ [])
      (files_after p event)

  -- A stop of the machine that leaves each file in a crash state is such an event, and so is a
  -- change of other files than the journal.
  abbrev pub StopsHappen : Type 0
  StopsHappen = (name : Text) (old new : p.R) (crash_state : Text → Text)
      → (p.rooms.is_modelled old → p.rooms.is_modelled new)
      → ((one : Text) → states_of p one old (crash_state one))
      → ((one c : Text) → states_of p one new c → c ≡ crash_state one)
      → IsFileEvent p (owner h p name) old (stops new)

  abbrev pub OtherFilesChange : Type 0
  OtherFilesChange = (name : Text) (old new : p.R)
      → (p.rooms.is_modelled old → p.rooms.is_modelled new)
      → ((one : Text) → IsOneFile p one name → Stays (p.rooms.file old) (p.rooms.file new)
      (p.rooms.device old) (p.rooms.device new) one)
      → IsFileEvent p (owner h p name) old (writes new)

  -- ---- runs of `verify` and `audit`

  -- A run of `verify` over a file with these bytes, and over one with a store, has verified them.
  abbrev pub FilesAreVerified : Type 0
  FilesAreVerified = (certificate store_name bytes text : Text) (unix_time : ℕ) (store : Store)
      (old : p.R) (run : Run p.R p.O p.E) → p.rooms.is_modelled old → p.HasRun old run
      → command_of run.words ≡ Ok (verify certificate store_name unix_time)
      → p.rooms.file old certificate ≡ Some bytes → length bytes ≤ 16777216
      → p.rooms.file old store_name ≡ Some text → length text ≤ 16777216
      → store_of text ≡ Ok store → HasVerified h p bytes store unix_time old run

  -- A run of `audit` over four files that are read is one of the headline's.
  abbrev pub FilesAreAudited : Type 0
  FilesAreAudited = (certificate store_name entries kept bytes text listed kept_text : Text)
      (unix_time : ℕ) (store : Store) (items : ItemLists) (old : p.R) (run : Run p.R p.O p.E)
      → p.rooms.is_modelled old → p.HasRun old run
      → command_of run.words ≡ Ok (audit certificate store_name unix_time entries kept)
      → p.rooms.file old certificate ≡ Some bytes → length bytes ≤ 16777216
      → p.rooms.file old store_name ≡ Some text → length text ≤ 16777216
      → store_of text ≡ Ok store → p.rooms.file old entries ≡ Some listed
      → length listed ≤ 8589934592 → items_in h listed ≡ Ok items
      → p.rooms.file old kept ≡ Some kept_text → length kept_text ≤ 8589934592
      → IsAuditRun h p bytes store unix_time items kept_text old run

  -- A run without status 8, of which no count of failures rose, went well.
  abbrev pub RunsWithoutFailuresGoWell : Type 0
  RunsWithoutFailuresGoWell = (old : p.R) (run : Run p.R p.O p.E) → run.status ≢ 8
      → (Rose (p.rooms.faults old) (p.rooms.faults run.room) → ⊥)
      → (Rose (p.outs.faults run.out) (p.outs.faults run.out_after) → ⊥) → WentWell p old run
