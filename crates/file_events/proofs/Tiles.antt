-- Tiles go with their journal, whatever happens to both.
use Rattle.std.proofs.Common.{inl, inr, List, [], ◌∷◌, ◌++◌, sym, subst}
use Rattle.byte_formats.specs.Types.{Text}
use Rattle.disk_core.specs.Disk.{NoNew}
use Rattle.file_events.specs.Events.{CrashStates, Event, HalfDone, Happens, Journaled, Leads}
use Rattle.file_events.specs.Events.{WasFound, appended, broke, elsewhere, ran, reads, started}
use Rattle.file_events.specs.Events.{untouched}
use Rattle.file_events.specs.Executions.{IsExecution}
use Rattle.file_events.specs.Laws.{IsDurablePrefix}
use Rattle.file_events.specs.Tiles.{AllGo, Goes, LeadsLog, LeavesTiles, LogEvent, LogHappens}
use Rattle.file_events.specs.Tiles.{LogLeads, NewTilesGo, PlainRecordsKeep, TilesGo, TilesWork}
use Rattle.file_events.specs.Tiles.{only_read, stored, broke as log_broke}
use Rattle.file_events.specs.Tiles.{elsewhere as log_elsewhere}
use Rattle.file_events.specs.Tiles.{ran as log_ran}
use Rattle.file_events.proofs.Records.{not_empty, one_list, stay_durable, whole_is_half}

-- the event of the journal
abbrev of_journal : LogEvent → Event
of_journal log_elsewhere = elsewhere
of_journal (log_ran heard did how) = ran heard did
of_journal (log_broke did how) = broke did

module _ (goes : List Text → Text → Type 0) (Plain : List Text → Text → Type 0)
    (Valid : List Text → Type 0) where
  journal_happens : (event : LogEvent) (journal tiles journal' tiles' : CrashStates)
      → LogHappens goes Plain Valid event journal tiles journal' tiles'
      → Happens Valid (of_journal event) journal journal'
  journal_happens log_elsewhere journal tiles journal' tiles' happens = happens.0
  journal_happens (log_ran heard did how) journal tiles journal' tiles' happens = happens.0
  journal_happens (log_broke did how) journal tiles journal' tiles' happens = elim happens [
    | inl kept ↦ inl kept.0
    | inr done ↦ inr done.0
  ]

  journal_leads : (event : LogEvent) (journal tiles journal' tiles' : CrashStates)
      → LogLeads goes Plain Valid event journal tiles journal' tiles'
      → Leads Valid (of_journal event) journal journal'
  journal_leads event journal tiles journal' tiles' leads = record {
    some = leads.some;
    happens = journal_happens event journal tiles journal' tiles' leads.happens;
  }

  module _ (keep : PlainRecordsKeep goes Plain Valid) (prefix : List Text)
      (journal tiles journal' tiles' : CrashStates) (durable : IsDurablePrefix Valid prefix journal)
      (go : Goes goes journal tiles) where
    -- the tiles go with the records that were found
    found_go : (list : List Text) → WasFound Valid journal list → AllGo goes list tiles
    found_go list found = go found.bytes list found.state found.stands

    kept_go : NoNew journal journal' → NoNew tiles tiles' → Goes goes journal' tiles'
    kept_go kept same c list at stands t there = go c list (kept c at) stands t (same t there)

    half_go : (did : Journaled) (how : TilesWork) → HalfDone Valid did journal journal'
        → LeavesTiles goes Plain how did tiles journal' tiles' → Goes goes journal' tiles'
    half_go untouched only_read kept same c others at stands t there =
        kept_go kept same c others at stands t there
    half_go untouched stored kept same c others at stands t there =
        kept_go kept same c others at stands t there
    half_go (reads list) only_read done same c others at stands t there =
        subst (λ (l : List Text). goes l t) (one_list c list others (done.1 c at) stands)
        (found_go list done.0 t (same t there))
    half_go (reads list) stored done keeps c others at stands t there =
        subst (λ (l : List Text). goes l t) (one_list c list others (done.1 c at) stands)
        (keeps (found_go list done.0) t there)
    half_go (appended list body) only_read done left c others at stands t there =
        let held = found_go list done.0.found t (left.1 t there) in
        elim (done.1 c at) [
          | inl old ↦ subst (λ (l : List Text). goes l t) (one_list c list others old stands) held
          | inr new ↦ subst (λ (l : List Text). goes l t)
              (one_list c (list ++ body ∷ []) others new stands)
              (keep list body t left.0 done.0.valid held)
        ]
    half_go (appended list body) stored done stores c others at stands t there =
        let held = found_go list done.0.found in
        elim (done.1 c at) [
          | inl old ↦ subst (λ (l : List Text). goes l t) (one_list c list others old stands)
              (stores.keeps held t there)
          | inr new ↦ subst (λ (l : List Text). goes l t)
              (one_list c (list ++ body ∷ []) others new stands)
              (stores.following held c at new t there)
        ]
    half_go (started body) only_read empty same c others at stands t there =
        absurd (not_empty Valid prefix journal durable empty)
    half_go (started body) stored empty same c others at stands t there =
        absurd (not_empty Valid prefix journal durable empty)

    one_event : (event : LogEvent)
        → LogHappens goes Plain Valid event journal tiles journal' tiles'
        → Goes goes journal' tiles'
    one_event log_elsewhere happens = kept_go happens.0 happens.1
    one_event (log_ran heard did how) happens =
        half_go did how (whole_is_half Valid did journal journal' happens.0) happens.1
    one_event (log_broke did how) happens = elim happens [
      | inl kept ↦ kept_go kept.0 kept.1
      | inr done ↦ half_go did how done.0 done.1
    ]

  module _ {W : Type 0} (journal tiles : W → CrashStates) where
    after : PlainRecordsKeep goes Plain Valid → (prefix : List Text) (events : List LogEvent)
        (old new : W) → IsDurablePrefix Valid prefix (journal old)
        → Goes goes (journal old) (tiles old)
        → IsExecution (LeadsLog goes Plain Valid journal tiles) old events new
        → IsDurablePrefix Valid prefix (journal new) × Goes goes (journal new) (tiles new)
    after keep prefix [] old new durable go is = (
      subst (λ (w : W). IsDurablePrefix Valid prefix (journal w)) (sym is) durable,
      subst (λ (w : W). Goes goes (journal w) (tiles w)) (sym is) go,
    )
    after keep prefix (event ∷ events) old new durable go is =
        after keep prefix events is.0 new
        (stay_durable Valid prefix (journal old) durable (of_journal event) (journal is.0)
        (journal_leads event (journal old) (tiles old) (journal is.0) (tiles is.0) is.1.0))
        (one_event keep prefix (journal old) (tiles old) (journal is.0) (tiles is.0) durable go
        event is.1.0.happens) is.1.1

    pub tiles_go : TilesGo goes Plain Valid journal tiles
    tiles_go keep prefix old new events durable go is =
        after keep prefix events old new durable go is

    pub new_tiles_go : NewTilesGo goes Plain Valid journal tiles
    new_tiles_go body old new all done c list at stands t there =
        subst (λ (l : List Text). goes l t)
        (one_list c (body ∷ []) list (done.1.1 c at) stands) (all t)
