-- An execution of a journal is a history of its records.
use Rattle.std.proofs.Common.{◌≡◌, inl, inr, Bool, true, false, List, [], ◌∷◌, ◌++◌, Option, None}
use Rattle.std.proofs.Common.{Some, sym, subst, append_assoc, if◌then◌else◌}
use Rattle.std.proofs.lemmas.List.{append-nil}
use Rattle.std.proofs.lemmas.Option.{none-some}
use Rattle.byte_formats.specs.Types.{Text}
use Rattle.disk_core.specs.Disk.{NoNew}
use Rattle.journal_core.specs.Format.{Represents}
use Rattle.file_events.specs.Events.{CrashStates, Done, Event, HalfDone, EventHolds, Journaled}
use Rattle.file_events.specs.Events.{Leads, MayAppend, WasFound, appended, broke, elsewhere, ran}
use Rattle.file_events.specs.Events.{reads, records_after, all_released, released_by}
use Rattle.file_events.specs.Events.{released_if, started, untouched}
use Rattle.file_events.specs.Histories.{ExecutionsAreHistories, HistoriesContinue, History}
use Rattle.file_events.specs.Histories.{IsHistory}
use Rattle.file_events.specs.Histories.{ReachesAll, RepresentsPending, TakesSteps}
use Rattle.file_events.specs.Laws.{IsJournalExecution}
use Rattle.file_events.proofs.Records.{no_records, one_list}

no_pending : (list : List Text) (pending : Option Text) (c : Text) → c ≡ []
    → RepresentsPending list pending c → ⊥
no_pending list None c is stands = no_records c list is stands
no_pending list (Some body) c is either = elim either [
  | inl old ↦ no_records c list is old
  | inr new ↦ no_records c (list ++ body ∷ []) is new
]

module _ (Valid : List Text → Type 0) (Reaches : History) (takes : TakesSteps Valid Reaches) where
  no_more : (out : List Text) (now : CrashStates) → IsHistory Reaches out now
      → IsHistory Reaches (out ++ []) now
  no_more out now history =
      subst (λ (o : List Text). IsHistory Reaches o now) (sym (append-nil out)) history

  -- the records that are found are those after a stop
  at_stop : (old : List Text) (pending : Option Text) (out list : List Text) (c : Text)
      → Reaches old pending out → RepresentsPending old pending c → Represents c list
      → Reaches list None out
  at_stop old None out list c reaches stands found =
      subst (λ (l : List Text). Reaches l None out) (one_list c old list stands found)
      (takes.stops true old None out reaches)
  at_stop old (Some body) out list c reaches either found = elim either [
    | inl without ↦ subst (λ (l : List Text). Reaches l None out)
        (one_list c old list without found) (takes.stops false old (Some body) out reaches)
    | inr more ↦ subst (λ (l : List Text). Reaches l None out)
        (one_list c (old ++ body ∷ []) list more found)
        (takes.stops true old (Some body) out reaches)
  ]

  -- a pending record is durable, and released if the run was heard
  ended : (heard : Bool) (list : List Text) (body : Text) (out : List Text)
      → Reaches list (Some body) out
      → Reaches (list ++ body ∷ []) None (out ++ (if heard then body ∷ [] else []))
  ended true list body out reaches = takes.releases list body out reaches
  ended false list body out reaches =
      subst (λ (o : List Text). Reaches (list ++ body ∷ []) None o) (sym (append-nil out))
      (takes.ends list body out reaches)

  module _ (out : List Text) (before now : CrashStates) (some : (c : Text) × now c) where
    module _ (history : IsHistory Reaches out before) where
      stopped : (list : List Text) → WasFound Valid before list → Reaches list None out
      stopped list found =
          at_stop history.list history.pending out list found.bytes history.reaches
          (history.each found.bytes found.state) found.stands

      begun : (list : List Text) (body : Text) → MayAppend Valid list body before
          → Reaches list (Some body) out
      begun list body may = takes.begins list body out may.valid (stopped list may.found)

      same : NoNew before now → IsHistory Reaches out now
      same kept = record {
        list = history.list;
        pending = history.pending;
        reaches = history.reaches;
        some = some;
        each = λ c at. history.each c (kept c at);
      }

      not_empty : NoNew (λ c. c ≡ []) before → ⊥
      not_empty empty =
          no_pending history.list history.pending history.some.0
          (empty history.some.0 history.some.1) (history.each history.some.0 history.some.1)

      whole : (heard : Bool) (did : Journaled) → Done Valid did before now
          → IsHistory Reaches (out ++ released_if heard did) now
      whole heard untouched done = no_more out now (same done)
      whole heard (reads list) done = no_more out now (record {
        list = list;
        pending = None;
        reaches = stopped list done.0;
        some = some;
        each = done.1;
      })
      whole heard (appended list body) done = record {
        list = list ++ body ∷ [];
        pending = None;
        reaches = ended heard list body out (begun list body done.0);
        some = some;
        each = done.1;
      }
      whole heard (started body) done = absurd (not_empty done.0)

      half : (did : Journaled) → HalfDone Valid did before now → IsHistory Reaches out now
      half untouched done = same done
      half (reads list) done = record {
        list = list;
        pending = None;
        reaches = stopped list done.0;
        some = some;
        each = done.1;
      }
      half (appended list body) done = record {
        list = list;
        pending = Some body;
        reaches = begun list body done.0;
        some = some;
        each = done.1;
      }
      half (started body) empty = absurd (not_empty empty)

    -- the first event that held some records
    first_whole : ReachesAll Valid Reaches → (heard : Bool) (did : Journaled) (list : List Text)
        → records_after did ≡ Some list → Done Valid did before now
        → IsHistory Reaches (released_if heard did) now
    first_whole makes_durable heard untouched list held done = absurd (none-some list held)
    first_whole makes_durable heard (reads found) list held done = record {
      list = found;
      pending = None;
      reaches = makes_durable found done.0.valid;
      some = some;
      each = done.1;
    }
    first_whole makes_durable heard (appended found body) list held done = record {
      list = found ++ body ∷ [];
      pending = None;
      reaches = ended heard found body []
          (takes.begins found body [] done.0.valid (makes_durable found done.0.found.valid));
      some = some;
      each = done.1;
    }
    first_whole makes_durable heard (started body) list held done = record {
      list = body ∷ [];
      pending = None;
      reaches = makes_durable (body ∷ []) done.1.0;
      some = some;
      each = done.1.1;
    }

  pub step : (out : List Text) (before now : CrashStates) (event : Event)
      → IsHistory Reaches out before → Leads Valid event before now
      → IsHistory Reaches (out ++ released_by event) now
  step out before now elsewhere history leads =
      no_more out now (same out before now leads.some history leads.happens)
  step out before now (ran heard did) history leads =
      whole out before now leads.some history heard did leads.happens
  step out before now (broke did) history leads = no_more out now (elim leads.happens [
    | inl kept ↦ same out before now leads.some history kept
    | inr done ↦ half out before now leads.some history did done
  ])

  first : ReachesAll Valid Reaches → (list : List Text) (before now : CrashStates) (event : Event)
      → EventHolds list event → Leads Valid event before now
      → IsHistory Reaches (released_by event) now
  first makes_durable list before now elsewhere held leads = absurd held
  first makes_durable list before now (ran heard did) held leads =
      first_whole [] before now leads.some makes_durable heard did list held leads.happens
  first makes_durable list before now (broke did) held leads = absurd held

module _ {W : Type 0} (states : W → CrashStates) (Valid : List Text → Type 0)
    (Reaches : History) where
  after : TakesSteps Valid Reaches → (out : List Text) (events : List Event) (old new : W)
      → IsHistory Reaches out (states old) → IsJournalExecution states Valid old events new
      → IsHistory Reaches (out ++ all_released events) (states new)
  after takes out [] old new history is =
      no_more Valid Reaches takes out (states new)
      (subst (λ (w : W). IsHistory Reaches out (states w)) (sym is) history)
  after takes out (event ∷ events) old new history is =
      subst (λ (o : List Text). IsHistory Reaches o (states new))
      (append_assoc out (released_by event) (all_released events))
      (after takes (out ++ released_by event) events is.0 new
      (step Valid Reaches takes out (states old) (states is.0) event history is.1.0) is.1.1)

  pub histories_continue : HistoriesContinue states Valid Reaches
  histories_continue takes out old new events history is = after takes out events old new history is

  pub executions_are_histories : ExecutionsAreHistories states Valid Reaches
  executions_are_histories takes makes_durable list old new [] held is = absurd held
  executions_are_histories takes makes_durable list old new (event ∷ events) held is =
      after takes (released_by event) events is.0 new
      (first Valid Reaches takes makes_durable list (states old) (states is.0) event held is.1.0)
      is.1.1
