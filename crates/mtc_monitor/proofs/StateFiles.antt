-- Runs of `monitor` that follow each other are runs of one monitor.
use Rattle.std.proofs.Common.{◌≡◌, ℕ, ◌+◌, ◌<◌, ◌≤◌, ◌^◌, true, List, [], ◌∷◌, ◌++◌, length, refl}
use Rattle.std.proofs.Common.{sym, ap, ◌∙◌, subst, arith, Option, Some, None, Result, Ok, Err}
use Rattle.std.proofs.Common.{Bool, false, codes, IfSome, if◌then◌else◌}
use Rattle.std.specs.Prelude.{nat_lt, is_ok, map}
use Rattle.std.specs.List.{AllByRecursion}
use Rattle.std.proofs.lemmas.List.{length-append}
use Rattle.std.proofs.lemmas.Option.{same_Some}
use Rattle.byte_formats.specs.Types.{HashFunction, Text}
use Rattle.byte_formats.proofs.Steps.{ok_is}
use Rattle.cosigner_core.specs.Reading.{advance_in}
use Rattle.cosigner_core.specs.Requests.{AdvanceParts}
use Rattle.entry_list.specs.Items.{ItemLists}
use Rattle.entry_list.specs.Reading.{items_in}
use Rattle.tls_wire.specs.Arcs.{IsAnchorId}
use Rattle.monitor_core.proofs.Again.{state_again}
use Rattle.monitor_core.proofs.Exact.{MonitorIsExact_always}
use Rattle.monitor_core.proofs.LastLines.{kept_of}
use Rattle.monitor_core.proofs.NextState.{next_read, report_indexed}
use Rattle.monitor_core.specs.Chains.{AreRuns, GivesHashes, MonitorRun}
use Rattle.monitor_core.specs.Monitor.{monitor_of}
use Rattle.monitor_core.specs.Reading.{state_in, watch_in}
use Rattle.monitor_core.specs.Report.{Findings}
use Rattle.monitor_core.specs.States.{IsStateOf, MonitorState, empty_state}
use Rattle.monitor_core.specs.TextLaws.{IsIndexed, IsNextState}
use Rattle.monitor_core.specs.Written.{found_text, state_text}
use Rattle.monitor_core.specs.declared.error.MonitorError.{MonitorError}
use Rattle.monitor_core.specs.declared.error.TextError.{TextError}
use Rattle.cosigner_core.specs.Reasons.{form_fault_text}
use Rattle.entry_list.specs.Reasons.{items_fault_text}
use Rattle.monitor_core.specs.Reasons.{text_fault_text}
use Rattle.mtc_command.specs.Steps.{Outcome, says, stops_at, with_bytes, with_form}
use Rattle.mtc_command.specs.declared.answer.Said.TheVariants.{Done}
use Rattle.mtc_command.specs.declared.answer.Stopped.TheVariants.{Beyond}
use Rattle.mtc_monitor.specs.MonitorOutcome.{kept_says, new_items_say, new_size_says, run_says}
use Rattle.mtc_monitor.specs.MonitorOutcome.{watch_says}
use Rattle.mtc_monitor.specs.StateFiles.{AsksFew, FollowEachOther, IsPrinted, MonitorCommand}
use Rattle.mtc_monitor.specs.StateFiles.{StateFilesChain, printed_by}

-- ---- what a command that printed has read

fits_there : (long : Bool) (file bytes : Text) (next : Text → Outcome) (text : Text)
    → (if long then stops_at Beyond file (codes "TooLong") else next bytes) ≡ says Done text
    → next bytes ≡ says Done text
fits_there true file bytes next text is =
    absurd (let one = ap (λ (o : Outcome). o.answer) is in cc)
fits_there false file bytes next text is = is

bytes_there : (limit : ℕ) (file : Text) (o : Option Text) (next : Text → Outcome) (text : Text)
    → with_bytes limit file o next ≡ says Done text
    → (bytes : Text) × (o ≡ Some bytes) × (next bytes ≡ says Done text)
bytes_there limit file None next text is =
    absurd (let one = ap (λ (o : Outcome). o.answer) is in cc)
bytes_there limit file (Some bytes) next text is =
    (bytes, refl, fits_there (nat_lt limit (length bytes)) file bytes next text is)

form_there : {F E : Type 0} (fault_text : E → Text) (file : Text) (r : Result F E)
    (next : F → Outcome) (text : Text) → with_form fault_text file r next ≡ says Done text
    → (form : F) × (r ≡ Ok form) × (next form ≡ says Done text)
form_there fault_text file (Ok form) next text is = (form, refl, is)
form_there fault_text file (Err why) next text is =
    absurd (let one = ap (λ (o : Outcome). o.answer) is in cc)

found_there : (r : Result Findings MonitorError) (text : Text) → run_says r ≡ says Done text
    → (found : Findings) × (r ≡ Ok found) × (text ≡ found_text found)
found_there (Ok found) text is =
    let one = ap (λ (o : Outcome). o.answer) is in
    let same : text ≡ found_text found = cc in
    (found, refl, same)
found_there (Err why) text is = absurd (let one = ap (λ (o : Outcome). o.answer) is in cc)

record HasRead (h : HashFunction) (c : MonitorCommand) : Type 0 where
  line : Text
  watched : Text
  request : Text
  has_line : c.files c.state ≡ Some line
  has_watched : c.files c.watch ≡ Some watched
  has_request : c.files c.request ≡ Some request
  kept : MonitorState
  domains : List Text
  parts : AdvanceParts
  items : ItemLists
  found : Findings
  reads : state_in line ≡ Ok kept
  watches : watch_in watched ≡ Ok domains
  asks : advance_in request ≡ Ok parts
  runs : monitor_of h kept domains parts.log parts.size parts.root parts.proof items.entries
      ≡ Ok found
  printed : c.printed ≡ found_text found

module _ (h : HashFunction) (c : MonitorCommand) where
  -- what is asked after each file
  abbrev after_request : Text → Text → Text → Outcome
  after_request s w r = with_bytes 8589934592 c.entries (c.files c.entries)
      (λ bytes. kept_says h c.state s c.watch w c.request r c.entries bytes)

  abbrev after_watch : Text → Text → Outcome
  after_watch s w = with_bytes 16777216 c.request (c.files c.request) (after_request s w)

  abbrev after_state : Text → Outcome
  after_state s = with_bytes 16777216 c.watch (c.files c.watch) (after_watch s)

  has_read : IsPrinted h c → HasRead h c
  has_read is =
      let line = bytes_there 16777216 c.state (c.files c.state) after_state c.printed is in
      let watched = bytes_there 16777216 c.watch (c.files c.watch) (after_watch line.0) c.printed
      line.2 in
      let request = bytes_there 16777216 c.request (c.files c.request)
      (after_request line.0 watched.0) c.printed watched.2 in
      let bytes = bytes_there 8589934592 c.entries (c.files c.entries) (λ b. kept_says h c.state
      line.0 c.watch watched.0 c.request request.0 c.entries b) c.printed request.2 in
      let kept = form_there text_fault_text c.state (state_in line.0) (λ k. watch_says h k c.watch
      watched.0 c.request request.0 c.entries bytes.0) c.printed bytes.2 in
      let domains = form_there text_fault_text c.watch (watch_in watched.0) (λ d. new_size_says h
      kept.0 d c.request request.0 c.entries bytes.0) c.printed kept.2 in
      let parts = form_there form_fault_text c.request (advance_in request.0) (λ r. new_items_say h
      kept.0 domains.0 r c.entries bytes.0) c.printed domains.2 in
      let p : AdvanceParts = parts.0 in
      let items = form_there items_fault_text c.entries (items_in h bytes.0) (λ i. run_says
      (monitor_of h kept.0 domains.0 p.log p.size p.root p.proof i.entries)) c.printed parts.2 in
      let found = found_there (monitor_of h kept.0 domains.0 p.log p.size p.root p.proof
      items.0.entries) c.printed items.2 in
      record {
        line = line.0;
        watched = watched.0;
        request = request.0;
        has_line = line.1;
        has_watched = watched.1;
        has_request = request.1;
        kept = kept.0;
        domains = domains.0;
        parts = p;
        items = items.0;
        found = found.0;
        reads = kept.1;
        watches = domains.1;
        asks = parts.1;
        runs = found.1;
        printed = found.2;
      }

-- ---- one command after another

-- the same from any state
record AreChainedFrom (h : HashFunction) (kept : MonitorState) (domains : List Text)
    (commands : List MonitorCommand) : Type 0 where
  runs : List MonitorRun
  found : List Findings
  are : AreRuns h domains kept runs found
  printed : map printed_by commands ≡ map found_text found

module _ (h : HashFunction) (gives : GivesHashes h) (watched : Text) (domains : List Text)
    (watches : watch_in watched ≡ Ok domains) where
  -- what a run found can be read by the next one
  record LeadsTo (old : List Text) (c : MonitorCommand) (kept : MonitorState) : Type 0 where
    run : MonitorRun
    found : Findings
    runs : monitor_of h kept domains run.log run.size run.root run.proof run.entries ≡ Ok found
    printed : c.printed ≡ found_text found
    state : IsStateOf h (old ++ run.entries) found.state
    id : IsAnchorId found.state.log
    next : (text : Text) → IsNextState c.printed text → state_in text ≡ Ok found.state

  leads : (old : List Text) (kept : MonitorState) (c : MonitorCommand) (text : Text)
      → IsStateOf h old kept → IsAnchorId kept.log → state_in text ≡ Ok kept
      → c.files c.state ≡ Some text → c.files c.watch ≡ Some watched → AsksFew c → IsPrinted h c
      → LeadsTo old c kept
  leads old kept c text are id reads there watch few printed =
      let read = has_read h c printed in
      let line : read.line ≡ text = same_Some read.line text (sym read.has_line ∙ there) in
      let state : read.kept ≡ kept = ok_is TextError read.kept kept
      (sym read.reads ∙ (ap state_in line ∙ reads)) in
      let file : read.watched ≡ watched = same_Some read.watched watched
      (sym read.has_watched ∙ watch) in
      let names : read.domains ≡ domains = ok_is TextError read.domains domains
      (sym read.watches ∙ (ap watch_in file ∙ watches)) in
      let p = read.parts in
      let entries : List Text = read.items.entries in
      let found = read.found in
      let runs : monitor_of h kept domains p.log p.size p.root p.proof entries ≡ Ok found =
      ap (λ s. monitor_of h s domains p.log p.size p.root p.proof entries) (sym state)
      ∙ ap (λ ds. monitor_of h read.kept ds p.log p.size p.root p.proof entries) (sym names)
      ∙ read.runs in
      let exact = MonitorIsExact_always h in
      let reported = exact.found kept domains p.log p.size p.root p.proof old entries found are
      runs in
      let lead = ((exact.ok kept domains p.log p.size p.root p.proof old entries are).0
      (ap is_ok runs)) in
      let asked : IfSome (Some read.request) (λ bytes. (parts : AdvanceParts)
      → advance_in bytes ≡ Ok parts → parts.size < 2 ^ 63) =
      subst (λ (o : Option Text). IfSome o (λ bytes. (parts : AdvanceParts)
      → advance_in bytes ≡ Ok parts → parts.size < 2 ^ 63)) read.has_request few in
      let small : p.size < 2 ^ 63 = asked p read.asks in
      let whole = lead.whole in
      let long = length-append old entries in
      let own : IsAnchorId found.state.log = subst IsAnchorId (sym reported.log) id in
      let holds = kept_of h gives (old ++ entries) found.state reported.state own (omega arith) in
      let indexed = subst (AllByRecursion IsIndexed) (sym reported.lines)
      (report_indexed domains (length old) entries (omega arith)) in
      record {
        run = record {
          log = p.log;
          size = p.size;
          root = p.root;
          proof = p.proof;
          entries = entries;
        };
        found = found;
        runs = runs;
        printed = read.printed;
        state = reported.state;
        id = own;
        next = λ t. next_read found c.printed t holds indexed read.printed;
      }

  chained : (commands : List MonitorCommand) (old : List Text) (kept : MonitorState)
      (Allowed : Text → Type 0) → ((text : Text) → Allowed text → state_in text ≡ Ok kept)
      → IsStateOf h old kept → IsAnchorId kept.log → FollowEachOther h watched Allowed commands
      → AreChainedFrom h kept domains commands
  chained [] old kept Allowed allowed are id follow = record {
    runs = [];
    found = [];
    are = tt;
    printed = refl;
  }
  chained (c ∷ commands) old kept Allowed allowed are id follow =
      let first = leads old kept c follow.0.0 are id (allowed follow.0.0 follow.0.1) follow.0.2
      follow.1 follow.2 follow.3 in
      let more = chained commands (old ++ first.run.entries) first.found.state
      (IsNextState c.printed) first.next first.state first.id follow.4 in
      record {
        runs = first.run ∷ more.runs;
        found = first.found ∷ more.found;
        are = (first.runs, more.are);
        printed = ap (λ t. t ∷ map printed_by commands) first.printed
            ∙ ap (λ ts. found_text first.found ∷ ts) more.printed;
      }

pub StateFilesChain_always : (h : HashFunction) → StateFilesChain h
StateFilesChain_always h log watched domains commands gives id watches follow =
    let none : IsStateOf h [] (empty_state log) = (MonitorIsExact_always h).empty log in
    let kept = kept_of h gives [] (empty_state log) none id (omega arith) in
    let chain = chained h gives watched domains watches commands [] (empty_state log)
    (λ text. text ≡ state_text (empty_state log))
    (λ text same. ap state_in same ∙ state_again (empty_state log) kept) none id follow in
    record {
      runs = chain.runs;
      found = chain.found;
      are = chain.are;
      printed = chain.printed;
    }
