-- What goes out of `issue-list`, in addition to the requests that it read and the record that it
-- added, and what becomes of the entries of that.
use Rattle.std.specs.Prelude.{◌≡◌, ℕ, ◌+◌, List, [], ◌∷◌, ◌++◌, length, slice_get, Some, Ok}
use Rattle.byte_formats.specs.Types.{HashFunction, Text}
use Rattle.file_events.specs.Worlds.{Program, EachRun, states_of}
use Rattle.file_events.specs.Owners.{did_to}
use Rattle.file_events.specs.Events.{MayRecover}
use Rattle.mtc_words.specs.Commands.{issue_list}
use Rattle.authority_core.specs.Issues.{issued_entry, issued_items}
use Rattle.authority_core.specs.RequestLists.{requests_of}
use Rattle.authority_core.specs.Requests.{RequestParts}
use Rattle.issuance_log.specs.Folds.{LogState, log_of, view_in}
use Rattle.issuance_log.specs.Records.{added_items}
use Rattle.issuance_log.specs.Settings.{Settings}
use Rattle.mtc_command.specs.Made.{appended}
use Rattle.mtc_authority.specs.ListOutcomes.{issued_lines}
use Rattle.party_history.specs.Laws.{HasItemAt}
use Rattle.party_history.specs.declared.start.PartyStart.TheVariants.{Log}
use Rattle.mtc_laws.specs.AuditLaws.{HoldsText}
use Rattle.mtc_laws.specs.ExecutionLaws.{OfExecutions}
use Rattle.mtc_laws.specs.PrintLaws.{OfEachRun, OfHeard}
use Rattle.mtc_top.specs.Executions.{HasPrinted, Run, WasHeld}

module _ (h : HashFunction) (p : Program) where
  -- The run read requests from this file, and added one record to a log with these records: the
  -- entries and the keys of the requests, in their order. What went out is the index of each entry,
  -- a line for each: they count on from the entries before them.
  pub record HasIssuedList (name file : Text) (old : p.R) (run : Run p.R p.O p.E) : Type 0 where
    pub text : Text
    pub has_text : HoldsText (p.rooms.file old) file 16777216 text
    pub requests : List RequestParts
    pub asked : requests_of text ≡ Ok requests
    pub list : List Text
    pub state : LogState
    pub log_is : log_of h list ≡ Ok state
    pub body : Text
    pub did : did_to p name old run ≡ appended list body
    pub items : added_items body ≡ issued_items h (view_in state) requests
    pub printed : HasPrinted p run (issued_lines (length state.entries) (length requests))

  -- Each run of `issue-list` that did its work, or of which a byte may have gone out, has done so.
  abbrev pub ListsArePrinted : Type 0
  ListsArePrinted = (name file : Text)
      → OfEachRun h p (OfHeard h p (issue_list name file) (HasIssuedList name file))

  -- The entry of each request is at its index, with its key, in the log of these records.
  pub record AreInLog (name file : Text) (old : p.R) (run : Run p.R p.O p.E) (found : List Text)
      : Type 0 where
    pub issued : HasIssuedList name file old run
    pub log : LogState
    pub log_is : log_of h found ≡ Ok log
    pub each : (i : ℕ) (request : RequestParts) → slice_get issued.requests i ≡ Some request
        → HasItemAt (length issued.state.entries + i)
        (issued_entry h (view_in issued.state) request) request.key log

  -- For each run of an execution: this holds of each log with which the journal may be recovered.
  abbrev pub IssuedListsStand : Type 0
  IssuedListsStand = OfExecutions h p (λ name start first old events new.
      (settings : Settings) (file : Text) (found : List Text) → start ≡ Log settings
      → MayRecover (states_of p name new) found
      → EachRun p (OfHeard h p (issue_list name file) (λ old run.
      AreInLog name file old run found)) old events)

  -- Each item of a record that a run added is in each such log. Its index counts the entries before
  -- the record, and the items before it in the record.
  abbrev pub AddedItemsStand : Type 0
  AddedItemsStand = OfExecutions h p (λ name start first old events new. (settings : Settings)
      (list found : List Text) (body : Text) (i : ℕ) (entry key : Text) (s : LogState)
      → start ≡ Log settings
      → WasHeld h p name old events (list ++ body ∷ [])
      → log_of h list ≡ Ok s → slice_get (added_items body) i ≡ Some (entry, key)
      → MayRecover (states_of p name new) found
      → (log : LogState) × ((log_of h found ≡ Ok log)
      × HasItemAt (length s.entries + i) entry key log))
