-- What goes out of `issue`, `switch`, `cosign` and `mirror-cosign`, in addition to the request and
-- the record that they add, and what becomes of that record.
use Rattle.std.specs.Prelude.{◌≡◌, ◌⊎◌, true, ℕ, List, [], ◌∷◌, ◌++◌, length, Option, None}
use Rattle.std.specs.Prelude.{Some, option_map, Ok}
use Rattle.byte_formats.specs.Types.{HashFunction, Text}
use Rattle.file_events.specs.Executions.{IsPrefix}
use Rattle.file_events.specs.Worlds.{Program, EachRun, states_of, heard_of}
use Rattle.file_events.specs.Owners.{did_to}
use Rattle.file_events.specs.Events.{MayRecover, EventHolds}
use Rattle.journal_core.specs.Format.{Represents}
use Rattle.mtc_words.specs.Commands.{CommandValue, advance, child, cosign, export, init_cosigner}
use Rattle.mtc_words.specs.Commands.{issue, keygen, mirror_advance, mirror_cosign, switch}
use Rattle.mtc_words.specs.Words.{command_of}
use Rattle.authority_core.specs.Files.{request_of}
use Rattle.authority_core.specs.Issues.{issued_entry}
use Rattle.authority_core.specs.Requests.{RequestParts}
use Rattle.cosigner_core.specs.Children.{next_child}
use Rattle.cosigner_core.specs.Exports.{export_text}
use Rattle.cosigner_core.specs.Folds.{CosignerState, cosigner_of}
use Rattle.cosigner_core.specs.Reading.{advance_in, subtree_in}
use Rattle.cosigner_core.specs.Records.{step_in}
use Rattle.cosigner_core.specs.Requests.{AdvanceParts, SubtreeParts}
use Rattle.cosigner_core.specs.declared.step.Step.TheVariants.{Sign}
use Rattle.issuance_log.specs.Folds.{LogState, log_of, view_in}
use Rattle.issuance_log.specs.Records.{item_in, switch_record}
use Rattle.issuance_log.specs.Settings.{Settings}
use Rattle.mirror_core.specs.Openings.{FoundMirror, mirror_read}
use Rattle.mirror_cosigner.specs.Requests.{subtree_by_mirror}
use Rattle.mtc_command.specs.Made.{appended, reads}
use Rattle.mtc_cosigner.specs.CosignerOutcomes.{advanced_text, child_line, cosigned_text}
use Rattle.mtc_cosigner.specs.KeygenOutcome.{lms_type, ots_type, public_line}
use Rattle.mtc_authority.specs.IssueOutcome.{issued_text}
use Rattle.mtc_authority.specs.SwitchOutcome.{switched_line}
use Rattle.mtc_authority.specs.Works.{IsLog}
use Rattle.mtc_mirror.specs.Works.{IsMirror}
use Rattle.party_history.specs.Laws.{HasItemAt}
use Rattle.party_history.specs.declared.start.PartyStart.TheVariants.{Log}
use Rattle.mtc_laws.specs.AuditLaws.{HoldsText}
use Rattle.mtc_laws.specs.ExecutionLaws.{OfExecutions}
use Rattle.mtc_top.specs.Executions.{owner, HasPrinted, HasStreamed, Run}

-- The command is `cosign` or `mirror-cosign`, with the cosigner in the journal of this name.
abbrev pub Signs : Text → CommandValue → Type 0
Signs name command = ((file : Text) × (command ≡ cosign name file))
    ⊎ ((mirror : Text) × ((start : ℕ) × ((end : ℕ)
    × (command ≡ mirror_cosign name mirror start end))))

module _ (h : HashFunction) (p : Program) where
  -- The run read a request from this file, and added a record to a log with these records: the
  -- entry and the key of the request. What went out is the index of the entry, which counts those
  -- before it.
  pub record HasIssued (name file : Text) (old : p.R) (run : Run p.R p.O p.E) : Type 0 where
    pub text : Text
    pub has_text : HoldsText (p.rooms.file old) file 16777216 text
    pub request : RequestParts
    pub asked : request_of text ≡ Ok request
    pub list : List Text
    pub state : LogState
    pub log_is : log_of h list ≡ Ok state
    pub body : Text
    pub did : did_to p name old run ≡ appended list body
    pub item : item_in body ≡ Some (issued_entry h (view_in state) request, request.key)
    pub printed : HasPrinted p run (issued_text (length state.entries))

  -- The run added a Switch to a log with these records, at its size. What went out is that size.
  pub record HasSwitched (name : Text) (old : p.R) (run : Run p.R p.O p.E) : Type 0 where
    pub list : List Text
    pub state : LogState
    pub log_is : log_of h list ≡ Ok state
    pub did : did_to p name old run ≡ appended list (switch_record (length state.entries))
    pub printed : HasPrinted p run (switched_line (length state.entries))

  -- A run of `cosign` read a request from a file, and one of `mirror-cosign` has the one that is
  -- made of the items of the mirror in a journal. It added a Sign record to a cosigner with these
  -- records, with the number of the next one-time key. What went out is the signature by that key,
  -- over the interval and the hash of the request.
  pub record HasCosigned (name : Text) (old : p.R) (run : Run p.R p.O p.E) : Type 0 where
    pub list : List Text
    pub state : CosignerState
    pub cosigner_is : cosigner_of h list ≡ Ok state
    pub request : SubtreeParts
    pub asked : ((file : Text) × ((text : Text)
        × ((command_of run.words ≡ Ok (cosign name file))
        × HoldsText (p.rooms.file old) file 16777216 text × (subtree_in text ≡ Ok request))))
        ⊎ ((mirror : Text) × ((start : ℕ) × ((end : ℕ) × ((held : Text) × ((found : FoundMirror)
        × ((command_of run.words ≡ Ok (mirror_cosign name mirror start end))
        × (p.rooms.file old mirror ≡ Some held) × (mirror_read h held ≡ Ok found)
        × (request ≡ subtree_by_mirror h found.state state.held start end)))))))
    pub body : Text
    pub did : did_to p name old run ≡ appended list body
    pub signs : step_in body
        ≡ Some (Sign state.key.next request.start request.end request.hash request.proof)
    pub printed : HasPrinted p run (cosigned_text state request)

  -- The run read a secret from this file. What went out is its public key: by the height of its
  -- tree, that of lower trees if it has two levels, and the width of its one-time keys.
  abbrev pub PrintsKey : ℕ → Option ℕ → ℕ → Text → p.R → Run p.R p.O p.E → Type 0
  PrintsKey top low width file old run = (secret : Text)
      × (HoldsText (p.rooms.file old) file 16777216 secret × HasPrinted p run
      (public_line (lms_type top) (option_map lms_type low) (ots_type width) secret))

  -- What goes out of a command that opens a cosigner's journal, or is given a secret file as such.
  -- `cosign` and `mirror-cosign` print a signature, and have added its record. `advance` prints the
  -- size in the request that it read, and `mirror-advance` the size in its arguments; `child` the
  -- number of the next lower tree, and has added its record; `export` the ids, the public key and
  -- the records after the first of those that it read; and those that are given a secret file print
  -- its public key. Each journal that another command opens or makes is a log's or a mirror's, and
  -- of what goes out of it nothing is said here.
  abbrev pub Says : CommandValue → p.R → Run p.R p.O p.E → Type 0
  Says (cosign name file) old run = HasCosigned name old run
  Says (mirror_cosign name mirror start end) old run = HasCosigned name old run
  Says (mirror_advance name mirror size) old run = HasPrinted p run (advanced_text size)
  Says (advance name file) old run = (text : Text) × ((request : AdvanceParts)
      × (HoldsText (p.rooms.file old) file 16777216 text × (advance_in text ≡ Ok request)
      × HasPrinted p run (advanced_text request.size)))
  Says (child name) old run = (list : List Text) × ((state : CosignerState)
      × ((cosigner_of h list ≡ Ok state)
      × (did_to p name old run ≡ appended list (next_child state))
      × HasPrinted p run (child_line state.key.children)))
  Says (export name) old run = (list : List Text) × ((state : CosignerState)
      × ((cosigner_of h list ≡ Ok state)
      × (did_to p name old run ≡ reads list)
      × HasStreamed p run (export_text state list)))
  Says (init_cosigner name id log top low width file) old run =
      PrintsKey top low width file old run
  Says (keygen height width file) old run = PrintsKey height None width file old run
  Says other old run = (name : Text) (list : List Text)
      → EventHolds list ((owner h p name).run_event old run) → IsLog h list ⊎ IsMirror h list

  -- This holds of each run by this command that did its work, or of which a byte may have gone out.
  abbrev pub OfHeard : CommandValue → (p.R → Run p.R p.O p.E → Type 0) → p.R
      → Run p.R p.O p.E → Type 0
  OfHeard command P old run =
      command_of run.words ≡ Ok command → heard_of p run ≡ true → P old run

  -- This holds of each run over files whose contents are known.
  abbrev pub OfEachRun : (p.R → Run p.R p.O p.E → Type 0) → Type 0
  OfEachRun P = (old : p.R) (run : Run p.R p.O p.E) → p.rooms.is_modelled old
      → p.HasRun old run → P old run

  -- Each such run of `issue` has issued.
  abbrev pub IndicesArePrinted : Type 0
  IndicesArePrinted = (name file : Text)
      → OfEachRun (OfHeard (issue name file) (HasIssued name file))

  -- Each such run of `switch` has switched.
  abbrev pub SwitchesArePrinted : Type 0
  SwitchesArePrinted = (name : Text) → OfEachRun (OfHeard (switch name) (HasSwitched name))

  -- Each such run of a command that signs has cosigned.
  abbrev pub SignaturesArePrinted : Type 0
  SignaturesArePrinted = (name : Text) (command : CommandValue) → Signs name command
      → OfEachRun (OfHeard command (HasCosigned name))

  -- Each run that did its work, or of which a byte may have gone out, has a command, and so it is
  -- of it. Of the commands that open a cosigner's journal, or are given a secret file as such, only
  -- `cosign` and `mirror-cosign` print a signature by it.
  abbrev pub OnlyCosignSigns : Type 0
  OnlyCosignSigns = (old : p.R) (run : Run p.R p.O p.E) → p.rooms.is_modelled old
      → p.HasRun old run → heard_of p run ≡ true
      → (command : CommandValue) × ((command_of run.words ≡ Ok command) × Says command old run)

  -- The entry is at its index, with its key, in the log of these records.
  pub record IsInLog (name file : Text) (old : p.R) (run : Run p.R p.O p.E) (found : List Text)
      : Type 0 where
    pub issued : HasIssued name file old run
    pub log : LogState
    pub log_is : log_of h found ≡ Ok log
    pub at_index : HasItemAt (length issued.state.entries)
        (issued_entry h (view_in issued.state) issued.request) issued.request.key log

  -- For each run of an execution: this holds of each log with which the journal may be recovered.
  abbrev pub IssuedEntriesStand : Type 0
  IssuedEntriesStand = OfExecutions h p (λ name start first old events new.
      (settings : Settings) (file : Text) (found : List Text) → start ≡ Log settings
      → MayRecover (states_of p name new) found
      → EachRun p (OfHeard (issue name file) (λ old run.
      IsInLog name file old run found)) old events)

  -- The log of these records was switched, at the index that went out.
  pub record IsSwitchedIn (name : Text) (old : p.R) (run : Run p.R p.O p.E) (found : List Text)
      : Type 0 where
    pub switched : HasSwitched name old run
    pub log : LogState
    pub log_is : log_of h found ≡ Ok log
    pub at_index : log.switched ≡ Some (length switched.state.entries)

  -- For each run of an execution: this holds of each log with which the journal may be recovered.
  abbrev pub SwitchesStand : Type 0
  SwitchesStand = OfExecutions h p (λ name start first old events new.
      (settings : Settings) (found : List Text) → start ≡ Log settings
      → MayRecover (states_of p name new) found
      → EachRun p (OfHeard (switch name) (λ old run. IsSwitchedIn name old run found)) old events)

  -- Each crash state of the journal represents records. Each run of the execution by a command that
  -- signs, if it did its work or if a byte of it may have gone out, has cosigned, and the records
  -- begin with those that were there and the one of the signature.
  abbrev pub SignaturesStand : Type 0
  SignaturesStand = OfExecutions h p (λ name start first old events new.
      (c : Text) → states_of p name new c → (found : List Text) × (Represents c found
      × ((command : CommandValue) → Signs name command
      → EachRun p (OfHeard command (λ old run. (signed : HasCosigned name old run)
      × IsPrefix (signed.list ++ signed.body ∷ []) found)) old events)))
