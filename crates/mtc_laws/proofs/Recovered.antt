-- What may be recovered of a party's journal after an execution, and its history.
use Rattle.std.proofs.Common.{◌≡◌, ◌⊎◌, inl, inr, ℕ, true, List, [], ◌∷◌, ◌++◌, Option, None, Some}
use Rattle.std.proofs.Common.{Result, Ok, refl, sym, subst, ap, ◌∙◌}
use Rattle.std.specs.Prelude.{IsOk, is_ok}
use Rattle.byte_formats.specs.Offsets.{IsBytes}
use Rattle.byte_formats.specs.Types.{HashFunction}
use Rattle.disk_core.specs.declared.disk.Disk.{Ghosts as Disks}
use Rattle.file_events.specs.Events.{Event, HasReleased, all_released, appended, ran, EventHolds}
use Rattle.file_events.specs.Executions.{AnyEvent, IsPrefix}
use Rattle.file_events.specs.Histories.{IsHistory, RepresentsPending}
use Rattle.file_events.specs.Laws.{IsDurablePrefix, IsJournalExecution, IsReadAfter}
use Rattle.file_events.specs.Owners.{ServesJournal}
use Rattle.file_events.proofs.Histories.{executions_are_histories}
use Rattle.file_events.proofs.OwnEvents.{each_run, stays_modelled}
use Rattle.file_events.proofs.Owners.{journal_executions, journal_lead}
use Rattle.file_events.proofs.Records.{one_list}
use Rattle.file_events.proofs.Stays.{first_held, held_stand, recovered_valid}
use Rattle.file_events.proofs.Stays.{released_held as was_held}
use Rattle.file_events.specs.Worlds.{states_of}
use Rattle.file_events.proofs.Uses.{head_is, whole_of}
use Rattle.journal_core.specs.Format.{Represents}
use Rattle.mtc_io.specs.declared.sink.Sink.{Ghosts as Sinks}
use Rattle.mtc_room.specs.declared.room.Room.{Ghosts as Rooms}
use Rattle.mtc_words.specs.Words.{command_of}
use Rattle.issuance_log.specs.Folds.{LogState, log_of}
use Rattle.issuance_log.specs.Settings.{Settings}
use Rattle.issuance_log.proofs.After.{begins_so}
use Rattle.mtc_command.proofs.Made.{OnlyNow, ReadsCrashState}
use Rattle.mirror_core.specs.Folds.{MirrorState, mirror_of}
use Rattle.mirror_core.proofs.After.{begins_so as mirror_begins}
use Rattle.party_history.specs.Journals.{Continues, HasHistory}
use Rattle.party_history.specs.Rules.{AreRecords, StartsWith, may_follow}
use Rattle.party_history.specs.declared.start.PartyStart.{PartyStart}
use Rattle.party_history.specs.declared.start.PartyStart.TheVariants.{Log, Cosigner, Mirror}
use Rattle.party_history.proofs.Agreement.{agree, keys_of_valid, made_so, read, starts_so}
use Rattle.party_history.proofs.Items.{item_added, items_kept}
use Rattle.party_history.proofs.Keys.{one_record}
use Rattle.party_history.proofs.Mirrors.{mirror_kept}
use Rattle.party_history.proofs.Taking.{no_records, reaches_all, takes_steps}
use Rattle.mtc_laws.specs.ExecutionLaws.{AddedEntriesStand, AreOfParty}
use Rattle.party_history.specs.Rules.{IsReadAs}
use Rattle.mtc_laws.specs.ExecutionLaws.{ExecutionsHaveHistories, EntriesStand, ReleasedStand}
use Rattle.mtc_laws.specs.ExecutionLaws.{OfReleased, ReleasedWasHeld}
use Rattle.mtc_laws.specs.ExecutionLaws.{JournalsAreOfParties, JournalsAreRead, KeysSignOnce}
use Rattle.mtc_laws.specs.ExecutionLaws.{KeysSignOneMessage}
use Rattle.mtc_laws.specs.ExecutionLaws.{MirroredItemsStand, RecoveredListsGrow}
use Rattle.mtc_laws.proofs.Commands.{spoken_records}
use Rattle.mtc_laws.proofs.Leaves.{contents_crash_state, first_own, held_rules, modelled_file}
use Rattle.mtc_laws.proofs.Leaves.{serves}
use Rattle.mtc_laws.proofs.HeardRuns.{heard_event, heard_held}
use Rattle.mtc_top.specs.Executions.{program, WasHeld, IsBegun, IsReached, Run, FileEvent}
use Rattle.mtc_laws.proofs.Aliases.{IsRun, DidWith, owner_of, crash_states_in, IsOwnExecution}
use Rattle.mtc_laws.proofs.Aliases.{journal_events}
use Rattle.mtc_laws.proofs.Aliases.{HasHeld, EachOwnRun, IsRecovered, IsHeard}
use Rattle.mtc_laws.proofs.Aliases.{ModelsFiles}

-- ---- lists

-- bytes that represent durable records and a pending one begin with the first of them
first_is : (first other c : List ℕ) (others durable list : List (List ℕ))
    (pending : Option (List ℕ)) → RepresentsPending (other ∷ durable) pending c → Represents c list
    → first ∷ others ≡ list → other ≡ first
first_is first other c others durable list None stands found is =
    head_is other first durable others (one_list c (other ∷ durable) list stands found ∙ sym is)
first_is first other c others durable list (Some body) stands found is = elim stands [
  | inl old ↦ head_is other first durable others
      (one_list c (other ∷ durable) list old found ∙ sym is)
  | inr new ↦ head_is other first (durable ++ body ∷ []) others
      (one_list c (other ∷ (durable ++ body ∷ [])) list new found ∙ sym is)
]

-- a party that began as a log has one
log_found : (h : HashFunction) (start : PartyStart) (settings : Settings) (first : List ℕ)
    (list : List (List ℕ)) → start ≡ Log settings → StartsWith start first
    → AreOfParty h start first list → (t : LogState) × (log_of h list ≡ Ok t)
log_found h (Log settings') settings first list is begins of =
    made_so (log_of h list) (subst (λ (l : List (List ℕ)). IsOk (log_of h l)) (sym of.is)
    (ap (λ (r : Result LogState ℕ). is_ok r) (begins_so h first settings' of.others begins)
    ∙ of.valid))
log_found h (Cosigner settings' public) settings first list is begins of = absurd cc
log_found h (Mirror log) settings first list is begins of = absurd cc

-- a party that began as a mirror has one
pub mirror_found : (h : HashFunction) (start : PartyStart) (log first : List ℕ)
    (list : List (List ℕ)) → start ≡ Mirror log → StartsWith start first
    → AreOfParty h start first list → (t : MirrorState) × (mirror_of h list ≡ Ok t)
mirror_found h (Log settings) log first list is begins of = absurd cc
mirror_found h (Cosigner settings public) log first list is begins of = absurd cc
mirror_found h (Mirror log') log first list is begins of =
    made_so (mirror_of h list) (subst (λ (l : List (List ℕ)). IsOk (mirror_of h l)) (sym of.is)
    (ap (λ (r : Result MirrorState ℕ). is_ok r) (mirror_begins h first log' of.others begins)
    ∙ of.valid))

tail_is : (x y : List ℕ) (xs ys : List (List ℕ)) → x ∷ xs ≡ y ∷ ys → xs ≡ ys
tail_is x y xs ys is = cc

module _ {R S D O E : Type 0} (h : HashFunction) (rooms : Rooms R S D) (disks : Disks D)
    (outs : Sinks O) (errs : Sinks E) (crash_state : ReadsCrashState disks) (only : OnlyNow disks)
    (contents : ModelsFiles rooms disks)
    (bytes : (d : D) (b : List ℕ) → disks.contents d ≡ Some b → IsBytes b) where
  module _ (name : List ℕ) (start : PartyStart) (first : List ℕ) (begins new : R)
      (events : List (FileEvent R O E))
      (begun : IsBegun h (program h rooms disks outs errs) name start first begins events)
      (execution : IsOwnExecution h rooms disks outs errs name begins events new) where
    abbrev evs : List Event
    evs = journal_events h rooms disks outs errs name begins events

    abbrev States : R → List ℕ → Type 0
    States = states_of (program h rooms disks outs errs) name

    serves_so : ServesJournal (program h rooms disks outs errs) (AreRecords h) name
    serves_so = serves h rooms disks outs errs crash_state only contents bytes name
        (first_own h rooms disks outs errs crash_state only contents bytes name
        (first ∷ begun.others)
        begins events begun.held)

    of_journal : IsJournalExecution States (AreRecords h) begins evs new
    of_journal = journal_executions (program h rooms disks outs errs) (AreRecords h) name serves_so
        begins new events begun.is_modelled execution

    pub modelled_then : rooms.is_modelled new
    modelled_then = stays_modelled (program h rooms disks outs errs)
        (owner_of h rooms disks outs errs name)
        (journal_lead (program h rooms disks outs errs) (AreRecords h) name serves_so) events begins
        new begun.is_modelled execution

    -- the records of the first run are durable
    pub durable : IsDurablePrefix (AreRecords h) (first ∷ begun.others) (States new)
    durable = held_stand States (AreRecords h) (first ∷ begun.others) begins new evs
        (first_held (first ∷ begun.others) evs begun.held) of_journal

    party : (c : List ℕ) (b : IsReadAfter (AreRecords h) (first ∷ begun.others) c)
        → AreOfParty h start first b.list
    party c b = record {
      others = begun.others ++ b.begins.0;
      is = sym b.begins.1;
      valid = agree h start first (begun.others ++ b.begins.0) begun.starts
          (subst (AreRecords h) (sym b.begins.1) b.valid);
    }

    pub party_list : (list : List (List ℕ))
        → IsRecovered h rooms disks outs errs name new list → AreOfParty h start first list
    party_list list found =
        let b = durable.each found.0 found.1.0 in
        subst (AreOfParty h start first) (one_list found.0 b.list list b.stands found.1.1)
        (party found.0 b)

    pub read_file : (c : List ℕ) → crash_states_in h rooms disks outs errs new name c
        ⊎ (rooms.file new name ≡ Some c) → (records : List (List ℕ))
        × (AreOfParty h start first records × IsReadAs h start c records)
    read_file c is =
        let b = durable.each c (elim is [
          | inl left ↦ left
          | inr there ↦ contents_crash_state disks (rooms.device new name) c crash_state
              (modelled_file disks (rooms.file new name) (rooms.device new name)
              (contents.0 new name modelled_then) ∙ there)
        ]) in
        let of = party c b in (
          first ∷ of.others,
          (
            record { others = of.others; is = refl; valid = of.valid },
            read h start first of.others c begun.starts of.valid
                (subst (Represents c) of.is b.stands),
          ),
        )

    -- what was held is a prefix of what is recovered
    pub held_prefix : (list found : List (List ℕ))
        → WasHeld h (program h rooms disks outs errs) name begins events list
        → IsRecovered h rooms disks outs errs name new found → IsPrefix list found
    held_prefix list found held is =
        (recovered_valid States (AreRecords h) list found begins new evs held of_journal is).1

    pub crash_state_list : (c : List ℕ) → crash_states_in h rooms disks outs errs new name c
        → (found : List (List ℕ)) × Represents c found
    crash_state_list c at = let b = durable.each c at in (b.list, b.stands)

    pub held_crash_state : (list : List (List ℕ)) (c : List ℕ)
        → WasHeld h (program h rooms disks outs errs) name begins events list
        → crash_states_in h rooms disks outs errs new name c
        → (found : List (List ℕ)) × (Represents c found × IsPrefix list found)
    held_crash_state list c held at =
        let b = (held_stand States (AreRecords h) list begins new evs held of_journal).each c at in
        (b.list, (b.stands, b.begins))

    -- what holds of each run of the execution, where it holds by the records that it held
    pub each_held : (IsSo : List (List ℕ) → Type 0) (P : R → Run R O E → Type 0)
        → ((list : List (List ℕ))
        → WasHeld h (program h rooms disks outs errs) name begins events list
        → IsSo list)
        → ((room : R) (run : Run R O E) → rooms.is_modelled room
        → IsRun h rooms disks outs errs room run
        → ((list : List (List ℕ)) → HasHeld h rooms disks outs errs name room run list → IsSo list)
        → P room run)
        → EachOwnRun h rooms disks outs errs P begins events
    each_held IsSo P reported each =
        let p = program h rooms disks outs errs in
        each_run p (owner_of h rooms disks outs errs name)
        (journal_lead p (AreRecords h) name serves_so) (List (List ℕ)) EventHolds IsSo P each events
        begins new begun.is_modelled execution reported

    -- each record that was released
    pub released_so : OfReleased h (program h rooms disks outs errs) name (λ list body.
        HasReleased evs list body
        × WasHeld h (program h rooms disks outs errs) name begins events (list ++ body ∷ []))
        begins events
    released_so =
        let p = program h rooms disks outs errs in
        each_run p (owner_of h rooms disks outs errs name)
        (journal_lead p (AreRecords h) name serves_so) Event (λ (x event : Event). event ≡ x)
        (λ (x : Event). AnyEvent (λ (event : Event). event ≡ x) evs)
        (λ old run. (list : List (List ℕ)) (body : List ℕ)
        → DidWith h rooms disks outs errs old run name (appended list body) → IsHeard outs run
        → HasReleased evs list body
        × WasHeld h (program h rooms disks outs errs) name begins events (list ++ body ∷ []))
        (λ old run is_modelled is_run reported list body did heard.
        let released = reported (ran true (appended list body))
        (heard_event h rooms disks outs errs old run is_run heard name (appended list body) did) in
        (released, was_held list body evs released)) events begins new begun.is_modelled execution
        (λ x any. any)

    pub released_crash_state : (c : List ℕ) → crash_states_in h rooms disks outs errs new name c
        → OfReleased h (program h rooms disks outs errs) name (λ list body. (found : List (List ℕ))
        × (Represents c found × IsPrefix (list ++ body ∷ []) found)) begins events
    released_crash_state c at =
        each_held (λ list. (found : List (List ℕ)) × (Represents c found × IsPrefix list found))
        (λ old run. (list : List (List ℕ)) (body : List ℕ)
        → DidWith h rooms disks outs errs old run name (appended list body) → IsHeard outs run
        → (found : List (List ℕ)) × (Represents c found × IsPrefix (list ++ body ∷ []) found))
        (λ list held. held_crash_state list c held at)
        (λ old run is_modelled is_run reported list body did heard. reported (list ++ body ∷ [])
        (heard_held h rooms disks outs errs old run is_run heard name list body did))

    -- ---- its history

    history : IsHistory (HasHistory h) (all_released evs) (States new)
    history = executions_are_histories States (AreRecords h) (HasHistory h) (takes_steps h)
        (reaches_all h) (first ∷ begun.others) begins new evs begun.held of_journal

    same_first : history.reaches.first ≡ first
    same_first =
        let c = history.some in
        let b = durable.each c.0 c.1 in
        first_is first history.reaches.first c.0 (begun.others ++ b.begins.0)
        history.reaches.durable b.list history.pending
        (subst (λ (l : List (List ℕ)). RepresentsPending l history.pending c.0)
        history.reaches.are (history.each c.0 c.1)) b.stands b.begins.1

    goes : Continues h (start ∷ []) 0 first [] history.list history.pending (all_released evs)
    goes = subst (λ (f : List ℕ). Continues h (start ∷ []) 0 f [] history.list history.pending
        (all_released evs)) same_first (history.reaches.of_party start
        (subst (StartsWith start) (sym same_first) begun.starts))

    pub reached : IsReached h (program h rooms disks outs errs) name start first begins events new
    reached = record {
      steps = goes.more;
      state = goes.state;
      leads = goes.leads;
      stands = λ c at. subst (λ (p : Option (List ℕ)).
          RepresentsPending (first ∷ goes.state.durable) p c) goes.pending_is
          (subst (λ (l : List (List ℕ)). RepresentsPending l history.pending c) goes.list_is
          (history.each c at));
      released = sym goes.out_is;
    }

  pub histories : ExecutionsHaveHistories h (program h rooms disks outs errs)
  histories = reached

  pub read_again : JournalsAreRead h (program h rooms disks outs errs)
  read_again = read_file

  pub lists_grow : RecoveredListsGrow h (program h rooms disks outs errs)
  lists_grow = held_crash_state

  pub released_was_held : ReleasedWasHeld h (program h rooms disks outs errs)
  released_was_held = released_so

  pub released_stand : ReleasedStand h (program h rooms disks outs errs)
  released_stand = released_crash_state

  pub keys_once : KeysSignOnce h (program h rooms disks outs errs)
  keys_once name start first begins new events begun execution settings public is record0 bodies
      found =
      let of = party_list name start first begins new events begun execution (record0 ∷ bodies)
      found in
      (keys_of_valid h start settings public bodies is
      (subst (λ (l : List (List ℕ)). may_follow h start l ≡ true)
      (sym (tail_is record0 first bodies of.others of.is)) of.valid)).counted

  pub one_message : KeysSignOneMessage h (program h rooms disks outs errs)
  one_message name start first begins new events begun execution settings public is list other more
      others body message one two held held' says says' same =
      let all = durable name start first begins new events begun execution in
      let c = all.some in
      let following = all.each c.0 c.1 in
      let found = begun.others ++ following.begins.0 in
      let recovered : IsRecovered h rooms disks outs errs name new (first ∷ found)
      = (c.0, (c.1, subst (Represents c.0) (sym following.begins.1) following.stands)) in
      let prefix = held_prefix name start first begins new events begun execution
      (list ++ body ∷ more) (first ∷ found) held recovered in
      let prefix' = held_prefix name start first begins new events begun execution
      (other ++ message ∷ others) (first ∷ found) held' recovered in
      let starts = subst (λ (s : PartyStart). StartsWith s first) is begun.starts in
      let of = party_list name start first begins new events begun execution (first ∷ found)
      recovered in
      one_record settings first starts.0 found list other body message (more ++ prefix.0)
      (others ++ prefix'.0) one two starts.1.0
      (keys_of_valid h start settings public found is
      (subst (λ (l : List (List ℕ)). may_follow h start l ≡ true)
      (sym (tail_is first first found of.others of.is)) of.valid))
      (whole_of list body more prefix.0 (first ∷ found) prefix.1)
      (whole_of other message others prefix'.0 (first ∷ found) prefix'.1) says says' same

  -- the log with which the journal may be recovered
  pub log_recovered : (name : List ℕ) (start : PartyStart) (first : List ℕ) (begins new : R)
      (events : List (FileEvent R O E))
      → IsBegun h (program h rooms disks outs errs) name start first begins events
      → IsOwnExecution h rooms disks outs errs name begins events new
      → (settings : Settings) (found : List (List ℕ)) → start ≡ Log settings
      → IsRecovered h rooms disks outs errs name new found
      → (t : LogState) × (log_of h found ≡ Ok t)
  log_recovered name start first begins new events begun execution settings found is recovered =
      log_found h start settings first found is begun.starts
      (party_list name start first begins new events begun execution found recovered)

  pub entries_stand : EntriesStand h (program h rooms disks outs errs)
  entries_stand name start first begins new events begun execution settings list found s is held log
      recovered =
      let t = log_recovered name start first begins new events begun execution settings found is
      recovered in
      let prefix = held_prefix name start first begins new events begun execution list found held
      recovered
      in (
        t.0,
        (
          t.1,
          items_kept h list prefix.0 s t.0 log
              (subst (λ (l : List (List ℕ)). log_of h l ≡ Ok t.0) (sym prefix.1) t.1),
        ),
      )

  pub added_stand : AddedEntriesStand h (program h rooms disks outs errs)
  added_stand name start first begins new events begun execution settings list found body entry key
      s is
      held log item recovered =
      let t = log_recovered name start first begins new events begun execution settings found is
      recovered in
      let prefix =
      held_prefix name start first begins new events begun execution (list ++ body ∷ [])
      found
      held recovered in (
        t.0,
        (
          t.1,
          item_added h list body prefix.0 entry key s t.0 log item
              (subst (λ (l : List (List ℕ)). log_of h l ≡ Ok t.0) (sym prefix.1) t.1),
        ),
      )

  pub mirrored_stand : MirroredItemsStand h (program h rooms disks outs errs)
  mirrored_stand name start first begins new events begun execution log list found s is held mirror
      recovered =
      let t = mirror_found h start log first found is begun.starts
      (party_list name start first begins new events begun execution found recovered) in
      let prefix = held_prefix name start first begins new events begun execution list found held
      recovered
      in (
        t.0,
        (
          t.1,
          mirror_kept h list prefix.0 s t.0 mirror
              (subst (λ (l : List (List ℕ)). mirror_of h l ≡ Ok t.0) (sym prefix.1) t.1),
        ),
      )

  -- records begin with a first one
  split : (list : List (List ℕ)) → AreRecords h list → (start : PartyStart) × ((first : List ℕ)
      × (StartsWith start first × AreOfParty h start first list))
  split [] records = absurd (no_records h records)
  split (first ∷ others) records =
      let start = starts_so h first others records in (
        start.0,
        (
          first,
          (
            start.1,
            record {
              others = others;
              is = refl;
              valid = agree h start.0 first others start.1 records;
            },
          ),
        ),
      )

  pub of_parties : JournalsAreOfParties h (program h rooms disks outs errs)
  of_parties name old run list is_modelled is_run held =
      split list (held_rules h rooms disks outs errs crash_state only contents bytes name old run
      (AreRecords h) (spoken_records h (command_of run.words)) list is_modelled is_run held)
