-- What is so of every command, whatever its plan: what a status says, what was found of what it
-- opens, and which tests a command has passed that did its work or judged.
use Rattle.std.specs.Prelude.{◌≡◌, ◌≢◌, ◌⊎◌, List, [], ◌∷◌, None, Ok, Some}
use Rattle.byte_formats.specs.Offsets.{IsBytes}
use Rattle.byte_formats.specs.Types.{Text}
use Rattle.journal_core.specs.Folds.{state_after}
use Rattle.journal_core.specs.Format.{Represents}
use Rattle.mtc_command.specs.Answers.{Reply, IsEarly, refused, said, status_of}
use Rattle.mtc_command.specs.Endings.{IsNamed}
use Rattle.mtc_command.specs.Made.{Journaled, appended, reads, started, untouched}
use Rattle.mtc_command.specs.Served.{OfEach, done_with}
use Rattle.mtc_command.specs.Steps.{Files}
use Rattle.mtc_command.specs.Wanted.{Meets}
use Rattle.mtc_command.specs.declared.answer.Said.{Said}
use Rattle.mtc_command.specs.declared.answer.Stopped.TheVariants.{BadForm}
use Rattle.command_plans.specs.Comes.{Comes}
use Rattle.command_plans.specs.Found.{AnyIsRefused, AreFound, AreRead}
use Rattle.command_plans.specs.Kinds.{Kinds}
use Rattle.command_plans.specs.Names.{input_names, journal_names}
use Rattle.command_plans.specs.Outcomes.{deed_outcome, outcome_of, wanted_of}
use Rattle.command_plans.specs.Plans.{Deed, Finds, Journal, makes, opens, Plan, ReadAll, works}

module _ (k : Kinds) where
  -- ---- the outcomes

  -- Every outcome is one of the six.
  abbrev pub OutcomesCome : Type 0
  OutcomesCome = (plan : Plan k) (files : Files) → Comes plan files (outcome_of plan files)

  -- This holds of each reply that the command may give over these files.
  abbrev pub OfEachReply : (Plan k → Files → Reply → Type 0) → Type 0
  OfEachReply P = (plan : Plan k) (files : Files) (reply : Reply)
      → Meets (outcome_of plan files).answer reply → P plan files reply

  -- ---- what a status says

  -- Status 1 is for arguments alone.
  abbrev pub NoCommandIsBadWords : Type 0
  NoCommandIsBadWords = OfEachReply (λ plan files reply. status_of reply ≢ 1)

  -- The reply is a refusal of a file that the command reads, or of a journal that it opens, or of
  -- the file beside one.
  pub record IsAbout (plan : Plan k) (files : Files) (reply : Reply) : Type 0 where
    pub file : Text
    pub reason : Text
    pub is : reply ≡ refused BadForm (Some file) reason
    pub about : IsNamed (input_names plan.inputs) file
        ⊎ AnyIsRefused k files plan.journals file reason

  -- With status 2 it is.
  abbrev pub MisreadIsAbout : Type 0
  MisreadIsAbout = OfEachReply (λ plan files reply. status_of reply ≡ 2 → IsAbout plan files reply)

  -- A journal that isn't opened goes with a status that may come before.
  abbrev pub UnopenedIsEarly : Type 0
  UnopenedIsEarly = OfEachReply (λ plan files reply.
      OfEach (λ name did. did ≡ untouched → IsEarly (status_of reply))
      (done_with (journal_names plan.journals) (outcome_of plan files).journals))

  -- ---- what was found

  -- The file of this name represents these records, and a party of this kind has them.
  pub record HasRecords (files : Files) (kind : k.Kind) (name : Text) (list : List Text)
      : Type 0 where
    pub bytes : Text
    pub there : files name ≡ Some bytes
    pub stands : Represents bytes list
    pub state : k.State kind
    pub is : state_after (k.fold kind) list ≡ Ok state

  -- A journal that is opened has the records that were found; one that is made had no file.
  abbrev pub IsSoundly : Files → Journal k → Journaled → Type 0
  IsSoundly files (opens kind beside name) (reads list) = HasRecords files kind name list
  IsSoundly files (opens kind beside name) (appended list body) = HasRecords files kind name list
  IsSoundly files (opens kind beside name) did = ⊥
  IsSoundly files (makes kind name) (started body) = files name ≡ None
  IsSoundly files (makes kind name) did = ⊥

  abbrev pub AreSoundly : Files → List (Journal k) → List Journaled → Type 0
  AreSoundly files [] [] = Unit {0}
  AreSoundly files (journal ∷ journals) (did ∷ dids) =
      IsSoundly files journal did × AreSoundly files journals dids
  AreSoundly files journals dids = ⊥

  -- No journal is opened or made, or all are, and so.
  abbrev pub FoundIsValid : Type 0
  FoundIsValid = (plan : Plan k) (files : Files)
      → ((name bytes : Text) → files name ≡ Some bytes → IsBytes bytes)
      → ((outcome_of plan files).journals ≡ [])
      ⊎ AreSoundly files plan.journals (outcome_of plan files).journals

  -- ---- what was passed

  -- All its files were read and were in their forms, its journals were found, and this is what it
  -- did and printed.
  pub record HasPassed (plan : Plan k) (files : Files) (status : Said) (text : Text)
      : Type 0 where
    pub read : ReadAll plan.inputs
    pub are_read : AreRead files plan.inputs plan.inputs read
    pub say : Finds plan.journals → Deed plan.journals
    pub works_so : plan.steps read ≡ works say
    pub founds : Finds plan.journals
    pub are_found : AreFound k files plan.journals founds
    pub is : outcome_of plan files ≡ deed_outcome plan.journals founds (say founds)
    pub meets : Meets (wanted_of (say founds).answer) (said status text)

  -- It has, if something goes to standard output.
  abbrev pub HeardHasPassed : Type 0
  HeardHasPassed = (plan : Plan k) (files : Files) (status : Said) (text : Text)
      → Meets (outcome_of plan files).answer (said status text)
      → HasPassed plan files status text
