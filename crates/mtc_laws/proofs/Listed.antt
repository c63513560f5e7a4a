-- What goes out of `issue-list`, and what becomes of the entries of its record.
use Rattle.std.proofs.Common.{◌≡◌, ◌∙◌, ℕ, ◌≤◌, false, List, [], ◌∷◌, ◌++◌, length, slice_get}
use Rattle.std.proofs.Common.{option_map, Bool, None, Some, ap, sym, subst, refl}
use Rattle.std.proofs.lemmas.List.{length-map}
use Rattle.std.proofs.lemmas.Option.{slice_get-map}
use Rattle.byte_formats.specs.Offsets.{IsBytes}
use Rattle.byte_formats.specs.Types.{HashFunction, Text}
use Rattle.disk_core.specs.declared.disk.Disk.{Ghosts as Disks}
use Rattle.journal_core.specs.Format.{end_offset}
use Rattle.journal_core.proofs.Standing.{found_stands}
use Rattle.mtc_io.specs.declared.sink.Sink.{Ghosts as Sinks}
use Rattle.mtc_room.specs.declared.room.Room.{Ghosts as Rooms}
use Rattle.mtc_words.specs.Commands.{issue_list}
use Rattle.issuance_log.specs.Folds.{LogView, log_fold, log_of, view_in}
use Rattle.issuance_log.specs.Records.{added_items, batch_record}
use Rattle.issuance_log.specs.Refusals.{batch_refusal}
use Rattle.issuance_log.proofs.Encoded.{batch_adds}
use Rattle.issuance_log.proofs.Fitting.{unrefused_batch}
use Rattle.issuance_log.proofs.Steps.{items_are}
use Rattle.authority_core.specs.Issues.{issued_batch, issued_entry, issued_items}
use Rattle.authority_core.specs.Requests.{RequestParts}
use Rattle.party_history.proofs.Items.{each_added}
use Rattle.mtc_command.specs.Made.{appended}
use Rattle.mtc_command.proofs.Made.{OnlyNow, ReadsCrashState}
use Rattle.mtc_authority.specs.ListOutcomes.{issued_lines}
use Rattle.mtc_plans.specs.Heard.{IssuesAllSo}
use Rattle.mtc_plans.proofs.Heard.{all_issued_so}
use Rattle.mtc_laws.specs.ListLaws.{AddedItemsStand, AreInLog, IssuedListsStand, ListsArePrinted}
use Rattle.mtc_laws.specs.PrintLaws.{OfHeard}
use Rattle.mtc_laws.proofs.HeardRuns.{file_bytes, heard_held, printed_so}
use Rattle.mtc_laws.proofs.Printed.{did_so, heard_so}
use Rattle.mtc_laws.proofs.Recovered.{each_held, held_prefix, log_recovered}
use Rattle.mtc_laws.proofs.Requested.{are_requests}
use Rattle.mtc_laws.proofs.Streams.{plain_command}
use Rattle.mtc_laws.proofs.Aliases.{ModelsFiles}
use Rattle.mtc_top.specs.Executions.{WasHeld, program}

-- the record of items that a log doesn't refuse is read as these
items_read : (v : LogView) (broken : Bool) (end : ℕ) (items : List (Text × Text))
    → 1 ≤ length items → batch_refusal v broken end items ≡ None
    → added_items (batch_record items) ≡ items
items_read v broken end items some is = items_are (batch_record items) items
    (batch_adds items (unrefused_batch v broken end items some is))

-- the item of a request
pub item_of : (h : HashFunction) (v : LogView) (requests : List RequestParts)
    (items : List (Text × Text)) (i : ℕ) (r : RequestParts) → items ≡ issued_items h v requests
    → slice_get requests i ≡ Some r → slice_get items i ≡ Some (issued_entry h v r, r.key)
item_of h v requests items i r are there =
    ap (λ (l : List (Text × Text)). slice_get l i) are
    ∙ slice_get-map (λ (x : RequestParts). (issued_entry h v x, x.key)) requests i
    ∙ ap (option_map (λ (x : RequestParts). (issued_entry h v x, x.key))) there

module _ {R S D O E : Type 0} (h : HashFunction) (rooms : Rooms R S D) (disks : Disks D)
    (outs : Sinks O) (errs : Sinks E)
    (contents : ModelsFiles rooms disks)
    (bytes : (d : D) (b : List ℕ) → disks.contents d ≡ Some b → IsBytes b) where
  pub lists_printed : ListsArePrinted h (program h rooms disks outs errs)
  lists_printed name file old run is_modelled is_run spoken heard =
      let command = issue_list name file in
      let s = heard_so h rooms disks outs errs old run command spoken is_modelled is_run heard
      (IssuesAllSo h (rooms.file old) name file) (all_issued_so h (rooms.file old) name file) in
      let state = s.found.state in
      let list = s.found.records in
      let are = file_bytes disks (rooms.file old name) (rooms.device old name) s.held bytes
      (contents.0 old name is_modelled) s.there in
      let body = issued_batch h (view_in state) s.requests in
      let items = issued_items h (view_in state) s.requests in
      let some : 1 ≤ length items = subst (λ (n : ℕ). 1 ≤ n) (sym (length-map s.requests
      (λ (x : RequestParts). (issued_entry h (view_in state) x, x.key))))
      (are_requests s.bytes s.requests s.asked).some in
      record {
        text = s.bytes;
        has_text = record { there = s.has_bytes.there; few = s.has_bytes.few };
        requests = s.requests;
        asked = s.asked;
        list = list;
        state = state;
        log_is = (found_stands (log_fold h) s.held s.found are s.is_log).1;
        body = body;
        did = did_so h rooms disks outs errs old run command spoken name (appended list body) refl
            s.did;
        items = items_read (view_in state) false (end_offset list) items some s.fits;
        printed = printed_so h rooms disks outs errs old run is_run heard
            (plain_command h command spoken refl)
            (issued_lines (length state.entries) (length s.requests)) s.reply_is;
      }

  module _ (crash_state : ReadsCrashState disks) (only : OnlyNow disks) where
    pub items_stand : AddedItemsStand h (program h rooms disks outs errs)
    items_stand name start first begins new events begun execution settings list found body i entry
        key s is held log item recovered =
        let t = log_recovered h rooms disks outs errs crash_state only contents bytes name start
        first begins new events begun execution settings found is recovered in
        let prefix = held_prefix h rooms disks outs errs crash_state only contents bytes name start
        first begins new events begun execution (list ++ body ∷ []) found held recovered in (
          t.0,
          (
            t.1,
            each_added h list body prefix.0 i entry key s t.0 log item
                (ap (log_of h) prefix.1 ∙ t.1),
          ),
        )

    pub lists_stand : IssuedListsStand h (program h rooms disks outs errs)
    lists_stand name start first begins new events begun execution settings file found is
        recovered =
        each_held h rooms disks outs errs crash_state only contents bytes name start first begins
        new events begun execution
        (WasHeld h (program h rooms disks outs errs) name begins events)
        (OfHeard h (program h rooms disks outs errs) (issue_list name file) (λ old run.
        AreInLog h (program h rooms disks outs errs) name file old run found))
        (λ list held. held)
        (λ old run is_modelled is_run held spoken heard.
        let i = lists_printed name file old run is_modelled is_run spoken heard in
        let log = log_recovered h rooms disks outs errs crash_state only contents bytes name start
        first begins new events begun execution settings found is recovered in
        let prefix = held_prefix h rooms disks outs errs crash_state only contents bytes name start
        first begins new events begun execution (i.list ++ i.body ∷ []) found
        (held (i.list ++ i.body ∷ [])
        (heard_held h rooms disks outs errs old run is_run heard name i.list i.body i.did))
        recovered in
        record {
          issued = i;
          log = log.0;
          log_is = log.1;
          each = λ n request there. each_added h i.list i.body prefix.0 n
              (issued_entry h (view_in i.state) request) request.key i.state log.0 i.log_is
              (item_of h (view_in i.state) i.requests (added_items i.body) n request i.items there)
              (ap (log_of h) prefix.1 ∙ log.1);
        })
