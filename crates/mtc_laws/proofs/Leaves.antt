-- What a run leaves of a journal is an event of it.
use Rattle.std.proofs.Common.{◌≡◌, ◌⊎◌, inl, inr, ℕ, true, false, Bool, List, [], ◌∷◌, ◌++◌}
use Rattle.std.proofs.Common.{◌||◌, ◌==◌, length, length-append, Option, None, Some}
use Rattle.std.proofs.Common.{refl, sym, subst, ap, ◌∙◌, arith, rules}
use Rattle.std.proofs.lemmas.Bool.{eq-eqb, ne_eqb, or_left, or_right}
use Rattle.std.proofs.lemmas.Option.{none-some}
use Rattle.byte_formats.specs.Offsets.{IsBytes}
use Rattle.byte_formats.specs.Types.{HashFunction, Text}
use Rattle.disk_core.specs.Disk.{NoNew}
use Rattle.disk_core.specs.declared.disk.Disk.{Ghosts as Disks}
use Rattle.file_events.specs.Events.{CrashStates, Done, HalfDone, Happens}
use Rattle.file_events.specs.Events.{MayAppend, WasFound, EventHolds, FirstHolds}
use Rattle.file_events.specs.Owners.{LeavesJournal, ServesJournal}
use Rattle.file_events.specs.Worlds.{breaks_off, broke_off, clock_of, done_to, event_with}
use Rattle.file_events.specs.Worlds.{states_at, states_since, exited, heard_of}
use Rattle.file_events.proofs.Works.{event_breaks}
use Rattle.file_events.proofs.Records.{held_valid, no_records, one_list}
use Rattle.journal_core.specs.Format.{Represents, RepresentsEither}
use Rattle.mtc_io.specs.declared.sink.Sink.{Ghosts as Sinks}
use Rattle.mtc_room.specs.Room.{ModelsFile}
use Rattle.mtc_room.specs.declared.room.Room.{Ghosts as Rooms}
use Rattle.mtc_words.specs.Words.{command_of, known_word}
use Rattle.mtc_command.specs.Made.{HasKept, HasMade, Journaled, Kept, Leaves, MayHaveMade, appended}
use Rattle.mtc_command.specs.Made.{device_contents, reads, started, untouched}
use Rattle.mtc_command.specs.Served.{IsOther, Journals, LeavesEach}
use Rattle.mtc_command.specs.Valid.{AddsValid, LeavesValid}
use Rattle.mtc_command.proofs.Made.{OnlyNow, ReadsCrashState}
use Rattle.mtc_command.proofs.Served.{other_both}
use Rattle.party_history.specs.Rules.{AreRecords}
use Rattle.mtc_top.specs.Facts.{facts}
use Rattle.mtc_laws.proofs.Beside.{IsOwn, journal_own, none_beside, own_place}
use Rattle.mtc_laws.proofs.Commands.{spoken_records}
use Rattle.mtc_laws.proofs.HeardBytes.{ended_whole, unheard, unheard_broke}
use Rattle.mtc_laws.proofs.Opened.{Finds, IsFound, IsNewAt, SpokenKeeps, spoken_finds}
use Rattle.mtc_laws.proofs.Opened.{spoken_keeps, spoken_new}
use Rattle.mtc_top.proofs.Runs.{ended, not5_of, not8_of}
use Rattle.mtc_top.specs.Executions.{program, Run, FileEvent}
use Rattle.mtc_laws.specs.RunLaws.{AreAmong}
pub use Rattle.mtc_laws.proofs.DoneAt.{IsDoneAt, done_alike, find_name, of_each}
use Rattle.mtc_laws.proofs.Aliases.{IsRun, owner_of, crash_states_in, crash_states_from}
use Rattle.mtc_laws.proofs.Aliases.{journal_events}
use Rattle.mtc_laws.proofs.Aliases.{HasHeld}
use Rattle.mtc_laws.proofs.Aliases.{ModelsFiles}

-- ---- files

-- a file has a crash state
pub some_crash_state : {D : Type 0} (g : Disks D) (file : Option (List ℕ)) (x : Option D)
    → ReadsCrashState g → ModelsFile g.contents file x → (c : List ℕ) × states_at g x c
some_crash_state g file None crash_state models = ([], refl)
some_crash_state g None (Some d) crash_state models = absurd (grind (rules, models))
some_crash_state g (Some b) (Some d) crash_state models = (b, crash_state d b models.0)

-- where there is no file it is empty
none_left : {D : Type 0} (g : Disks D) (file : Option (List ℕ)) (x : Option D) (c : List ℕ)
    → ModelsFile g.contents file x → file ≡ None → states_at g x c → c ≡ []
none_left g file None c models none is = is
none_left g None (Some d) c models none is = absurd (grind (rules, models))
none_left g (Some b) (Some d) c models none is = absurd cc

-- the bytes of a device that the model knows are one, and so are those of the file
pub contents_crash_state : {D : Type 0} (g : Disks D) (x : Option D) (c : List ℕ)
    → ReadsCrashState g
    → device_contents g x ≡ Some c → states_at g x c
contents_crash_state g None c crash_state is = absurd cc
contents_crash_state g (Some d) c crash_state is = crash_state d c is

pub modelled_file : {D : Type 0} (g : Disks D) (file : Option (List ℕ)) (x : Option D)
    → ModelsFile g.contents file x → device_contents g x ≡ file
modelled_file g file None models = sym models
modelled_file g file (Some d) models = models.0

pub file_bytes : {D : Type 0} (g : Disks D) (file : Option (List ℕ)) (x : Option D) (c : List ℕ)
    → ((d : D) (b : List ℕ) → g.contents d ≡ Some b → IsBytes b) → ModelsFile g.contents file x
    → file ≡ Some c → IsBytes c
file_bytes g file None c bytes models is = absurd cc
file_bytes g file (Some d) c bytes models is = bytes d c (models.0 ∙ is)

-- the crash states since now are those of now
now_of : {D : Type 0} (g : Disks D) → OnlyNow g → (x : Option D) (c : List ℕ)
    → states_since g x (clock_of g x) c → states_at g x c
now_of g only None c is = is
now_of g only (Some d) c is = only d c is

-- one record more is another list
pub one_longer : (list : List (List ℕ)) (body : List ℕ) → list ≡ list ++ body ∷ [] → ⊥
one_longer list body is = omega (arith, ap length is, length-append list (body ∷ []))

-- An event of a journal, and one of a run that broke off at each time of it: of a device before and
-- after a run that did this.
pub record Goes {D : Type 0} (g : Disks D) (Valid : List Text → Type 0) (broken heard : Bool)
    (did : Journaled) (before now : Option D) : Type 0 where
  pub happens : Happens Valid (event_with broken heard did) (states_at g before) (states_at g now)
  pub times : (c : Text) → states_since g now (clock_of g before) c
      → NoNew (states_at g before) (λ d. d ≡ c)
      ⊎ HalfDone Valid did (states_at g before) (λ d. d ≡ c)

-- ---- an event of a journal that isn't opened

idle_happens : (Valid : List (List ℕ) → Type 0) (before now : CrashStates) (broken heard : Bool)
    → NoNew before now → Happens Valid (event_with broken heard untouched) before now
idle_happens Valid before now true heard kept = inl kept
idle_happens Valid before now false heard kept = kept

idle_holds : (list : List (List ℕ)) (broken heard : Bool)
    → EventHolds list (event_with broken heard untouched) → ⊥
idle_holds list true heard held = held
idle_holds list false heard held = none-some list held

module _ {R S D O E : Type 0} (h : HashFunction) (rooms : Rooms R S D) (disks : Disks D)
    (outs : Sinks O) (errs : Sinks E) (crash_state : ReadsCrashState disks) (only : OnlyNow disks)
    (contents : ModelsFiles rooms disks)
    (bytes : (d : D) (b : List ℕ) → disks.contents d ≡ Some b → IsBytes b) where
  abbrev Js : R → Run R O E → Journals
  Js = (program h rooms disks outs errs).journals

  -- what a run did with the journal of a name
  abbrev Done' : List ℕ → R → Run R O E → Journaled
  Done' name old run = done_to rooms.leads_to (Js old run) name

  -- ---- a run that worked on the journal, by rules that its records follow

  module _ (name : List ℕ) (old : R) (run : Run R O E) (is_modelled : rooms.is_modelled old)
      (is_run : IsRun h rooms disks outs errs old run) (Valid : List (List ℕ) → Type 0)
      (keeps : SpokenKeeps h Valid (command_of run.words)) where
    abbrev Before : CrashStates
    Before = crash_states_in h rooms disks outs errs old name

    abbrev Now : CrashStates
    Now = crash_states_in h rooms disks outs errs run.room name

    abbrev Between : CrashStates
    Between = crash_states_from h rooms disks outs errs old run.room name

    abbrev heard : Bool
    heard = heard_of (program h rooms disks outs errs) run

    abbrev broken : Bool
    broken = broke_off (program h rooms disks outs errs) run

    some : (c : List ℕ) × Now c
    some =
        some_crash_state disks (rooms.file run.room name) (rooms.device run.room name) crash_state
        (contents.0 run.room name (is_run.back.is_modelled is_modelled))

    -- the file that was read is a crash state
    pub reported : (c : List ℕ) → rooms.file old name ≡ Some c → device_contents disks
        (rooms.device old name) ≡ Some c
    reported c there = modelled_file disks (rooms.file old name) (rooms.device old name)
        (contents.0 old name is_modelled) ∙ there

    pub found : (list : List (List ℕ)) → IsFound Valid (rooms.file old name) list
        → WasFound Valid Before list
    found list is = record {
      bytes = is.bytes;
      state = contents_crash_state disks (rooms.device old name) is.bytes crash_state
          (reported is.bytes is.there);
      stands = is.stands;
      valid = is.valid;
    }

    pub may_append : (list : List (List ℕ)) (body : List ℕ)
        → IsFound Valid (rooms.file old name) list → Valid (list ++ body ∷ [])
        → MayAppend Valid list body Before
    may_append list body is valid = record { found = found list is; valid = valid }

    pub empty_before : (body : List ℕ) → IsNewAt (rooms.file old) name (started body)
        → NoNew (λ c. c ≡ []) Before
    empty_before body is_new c at = elim is_new [
      | inl on ↦ absurd on
      | inr none ↦ none_left disks (rooms.file old name) (rooms.device old name) c
          (contents.0 old name is_modelled) none at
    ]

    -- an added record follows the rules: the journal can't be as it was
    added_valid : (list : List (List ℕ)) (body : List ℕ)
        → IsFound Valid (rooms.file old name) list
        → LeavesValid rooms disks Valid old run.room name (appended list body)
        → ((c : List ℕ) → Now c → Represents c (list ++ body ∷ []))
        → Valid (list ++ body ∷ [])
    added_valid list body is valid now = elim valid [
      | inl kept ↦ absurd (one_longer list body (one_list is.bytes list (list ++ body ∷ [])
          is.stands (now is.bytes
          (contents_crash_state disks (rooms.device run.room name) is.bytes crash_state
          (kept.1 ∙ reported is.bytes is.there)))))
      | inr adds ↦ adds
    ]

    made_valid : (body : List ℕ) → NoNew (λ c. c ≡ []) Before
        → LeavesValid rooms disks Valid old run.room name (started body)
        → ((c : List ℕ) → Now c → Represents c (body ∷ [])) → Valid (body ∷ [])
    made_valid body empty valid now = elim valid [
      | inl kept ↦ absurd (no_records some.0 (body ∷ [])
          (empty some.0 (kept.0.crash_states.now_is some.0 some.1)) (now some.0 some.1))
      | inr adds ↦ adds
    ]

    module _ (c : List ℕ) where
      -- what is left at some time
      abbrev Left : Journaled → Type 0
      Left did = NoNew Before (λ d. d ≡ c) ⊎ HalfDone Valid did Before (λ d. d ≡ c)

      past : (did : Journaled) → Before c → Left did
      past did at = inl (λ d same. subst Before (sym same) at)

      either : (list : List (List ℕ)) (body : List ℕ) → MayAppend Valid list body Before
          → Before c ⊎ RepresentsEither list body c → Left (appended list body)
      either list body may is = elim is [
        | inl at ↦ past (appended list body) at
        | inr new ↦ inr (may, λ d same. subst (RepresentsEither list body) (sym same) new)
      ]

    -- by what the run knows of the journal
    module _ (did : Journaled) where
      pub record Knows : Type 0 where
        pub finds : Finds Valid (rooms.file old name) did
        pub is_new : IsNewAt (rooms.file old) name did
        pub valid : LeavesValid rooms disks Valid old run.room name did

    -- it came to its end
    done : (did : Journaled) → Knows did → HasMade did Before Now Between
        → Done Valid did Before Now
    done untouched knows made = made.now_is
    done (reads list) knows made = (found list knows.finds, made.now_is)
    done (appended list body) knows made = (
      may_append list body knows.finds (added_valid list body knows.finds knows.valid made.now_is),
      made.now_is,
    )
    done (started body) knows made =
        let empty = empty_before body knows.is_new in
        (empty, (made_valid body empty knows.valid made, made))

    done_then : (did : Journaled) → Knows did → HasMade did Before Now Between → (c : List ℕ)
        → Between c → Left c did
    done_then untouched knows made c at = past c untouched (made.since_is c at)
    done_then (reads list) knows made c at = past c (reads list) (made.since_is c at)
    done_then (appended list body) knows made c at =
        either c list body (may_append list body knows.finds
        (added_valid list body knows.finds knows.valid made.now_is)) (made.since_is c at)
    done_then (started body) knows made c at = inr (empty_before body knows.is_new)

    -- the file system failed
    half : (did : Journaled) → Knows did → MayHaveMade did Before Now Between
        → NoNew Before Now ⊎ HalfDone Valid did Before Now
    half untouched knows made = inl made.now_is
    half (reads list) knows made = inl made.now_is
    half (appended list body) knows made = elim knows.valid [
      | inl kept ↦ inl kept.0.crash_states.now_is
      | inr adds ↦ elim made [
        | inl kept ↦ inl kept.now_is
        | inr may ↦ inr (may_append list body knows.finds adds, may.now_is)
      ]
    ]
    half (started body) knows made = inr (empty_before body knows.is_new)

    half_then : (did : Journaled) → Knows did → MayHaveMade did Before Now Between → (c : List ℕ)
        → Between c → Left c did
    half_then untouched knows made c at = past c untouched (made.since_is c at)
    half_then (reads list) knows made c at = past c (reads list) (made.since_is c at)
    half_then (appended list body) knows made c at = elim knows.valid [
      | inl kept ↦ past c (appended list body) (kept.0.crash_states.since_is c at)
      | inr adds ↦ elim made [
        | inl kept ↦ past c (appended list body) (kept.since_is c at)
        | inr may ↦ either c list body (may_append list body knows.finds adds) (may.since_is c at)
      ]
    ]
    half_then (started body) knows made c at = inr (empty_before body knows.is_new)

    -- the record that is added follows the rules, where it follows those of the command
    adds_so : (did : Journaled) → AddsValid (facts h (command_of run.words)).Valid did
        → AddsValid Valid did
    adds_so untouched adds = tt
    adds_so (reads list) adds = tt
    adds_so (appended list body) adds =
        spoken_keeps h Valid (command_of run.words) keeps (list ++ body ∷ []) adds
    adds_so (started body) adds =
        spoken_keeps h Valid (command_of run.words) keeps (body ∷ []) adds

    -- by its status
    module _ (did : Journaled) (among : AreAmong (Js old run) name did) where
      -- what the command has left by its own rules
      pub left_valid : LeavesValid rooms disks (facts h (command_of run.words)).Valid old run.room
          name did
      left_valid = of_each (LeavesValid rooms disks (facts h (command_of run.words)).Valid old
          run.room) (Js old run) name did (is_run.valid is_modelled) among

      pub knows : Knows did
      knows = record {
        finds = of_each (λ n d. Finds Valid (rooms.file old n) d) (Js old run) name did
            (spoken_finds h (rooms.file old) Valid (λ n c is. file_bytes disks (rooms.file old n)
            (rooms.device old n) c bytes (contents.0 old n is_modelled) is)
            (command_of run.words) keeps) among;
        is_new = of_each (IsNewAt (rooms.file old)) (Js old run) name did
            (spoken_new h (command_of run.words) (rooms.file old)) among;
        valid = elim left_valid [ inl kept ↦ inl kept | inr adds ↦ inr (adds_so did adds) ];
      }

      abbrev Broken : Bool → Type 0
      Broken b = Happens Valid (event_with b heard did) Before Now

      -- it has done with the journal what is asked
      full : (b : Bool) → Happens Valid (event_with false heard did) Before Now → Broken b
      full false is = is
      full true is = (event_breaks Valid false heard did Before Now
          (record { some = some; happens = is })).happens

      left_so : (How : Journaled → CrashStates → CrashStates → CrashStates → Type 0)
          → LeavesEach rooms disks old run.room (Js old run) How → How did Before Now Between
      left_so How all = (of_each (λ n d. Leaves disks (How d) (rooms.device old n)
          (rooms.device run.room n)) (Js old run) name did all among).crash_states

      pub goes : Goes disks Valid broken heard did (rooms.device old name)
          (rooms.device run.room name)
      goes = elim (ended h rooms disks outs errs run.words old run.room run.out run.out_after
          run.err run.err_after run.status is_run) [
            | inl a ↦
                (let made = left_so HasMade (a.made is_modelled) in
                let not5 = not5_of outs errs (known_word run.words) run.out run.out_after
                run.err run.err_after a.reply run.status a.concludes in
                let not8 = not8_of outs errs (known_word run.words) run.out run.out_after
                run.err run.err_after a.reply run.status a.concludes in record {
                  happens = subst Broken (sym (ended_whole (breaks_off run.status) heard
                      (ap (λ (b : Bool). b || (run.status == 8)) (ne_eqb run.status 5 not5)
                      ∙ ne_eqb run.status 8 not8))) (done did knows made);
                  times = done_then did knows made;
                })
            | inr other ↦ elim other [
              | inl failed ↦
                  (let made = left_so MayHaveMade (failed.made is_modelled) in record {
                    happens = subst Broken (sym (unheard_broke (breaks_off run.status) heard
                        (or_left (run.status == 5) (run.status == 8)
                        (eq-eqb run.status 5 failed.code))
                        (unheard run.status 5 (outs.taken run.out) (outs.taken run.out_after)
                        failed.code (omega arith) (λ six. omega (arith, six)) failed.text)))
                        (half did knows made);
                    times = half_then did knows made;
                  })
              | inr others ↦ elim others [
                | inl out_of_memory ↦
                    (let kept : Kept Before Now Between
                    = left_so HasKept (out_of_memory.made is_modelled) in record {
                      happens = subst Broken (sym (unheard_broke (breaks_off run.status) heard
                          (or_right (run.status == 5) (run.status == 8)
                          (eq-eqb run.status 8 out_of_memory.code))
                          (unheard run.status 8 (outs.taken run.out) (outs.taken run.out_after)
                          out_of_memory.code (omega arith) (λ six. omega (arith, six))
                          out_of_memory.text))) (inl kept.now_is);
                      times = λ c at. past c did (kept.since_is c at);
                    })
                | inr short ↦
                    (let made = left_so HasMade (short.cut.1.made is_modelled) in record {
                      happens = full broken (done did knows made);
                      times = done_then did knows made;
                    })
              ]
            ]
          ]

    -- where it didn't work on the journal
    module _ (beside : IsOther rooms.leads_to (facts h (command_of run.words)).besides name)
        (other : IsOther rooms.leads_to (facts h (command_of run.words)).journals name) where
      pub still : rooms.device run.room name ≡ rooms.device old name
      still = (is_run.back.others name (other_both rooms.leads_to
          (facts h (command_of run.words)).besides (facts h (command_of run.words)).journals name
          beside other)).disk

      still_now : NoNew Before Now
      still_now c at = subst (λ (x : Option D). states_at disks x c) still at

      still_then : (c : List ℕ) → Between c → Before c
      still_then c at = now_of disks only (rooms.device old name) c
          (subst (λ (x : Option D). states_since disks x (clock_of disks (rooms.device old name)) c)
          still at)

      pub idle : (did : Journaled) → did ≡ untouched
          → Goes disks Valid broken heard did (rooms.device old name) (rooms.device run.room name)
      idle did is = record {
        happens = subst (λ (d : Journaled). Happens Valid (event_with broken heard d) Before Now)
            (sym is) (idle_happens Valid Before Now broken heard still_now);
        times = λ c at. past c did (still_then c at);
      }

    pub event_of : (did : Journaled)
        → Goes disks Valid broken heard did (rooms.device old name) (rooms.device run.room name)
        → Done' name old run ≡ did
        → LeavesJournal (program h rooms disks outs errs) Valid name old run
    event_of did is same = record {
      leads = record {
        some = some;
        happens = subst (λ (d : Journaled). Happens Valid (event_with broken heard d) Before Now)
            (sym same) is.happens;
      };
      times = λ c at. record {
        some = (c, refl);
        happens = subst (λ (d : Journaled). Left c d) (sym same) (is.times c at);
      };
    }

  module _ (name : List ℕ) (old : R) (run : Run R O E) (is_modelled : rooms.is_modelled old)
      (is_run : IsRun h rooms disks outs errs old run) (Valid : List (List ℕ) → Type 0)
      (keeps : SpokenKeeps h Valid (command_of run.words)) where
    -- the journal that has the place of this name is that of another name
    abbrev GoesAt : Journaled → Option D → Option D → Type 0
    GoesAt did before now = Goes disks Valid (broke_off (program h rooms disks outs errs) run)
        (heard_of (program h rooms disks outs errs) run) did before now

    carried : (did : Journaled) → IsDoneAt rooms.leads_to (Js old run) name did
        → GoesAt did (rooms.device old name) (rooms.device run.room name)
    carried did at =
        let first = contents.1 old at.0 name is_modelled at.1.0 in
        let last = contents.1 run.room at.0 name (is_run.back.is_modelled is_modelled) at.1.0 in
        subst (λ (x : Option D). GoesAt did x (rooms.device run.room name)) first
        (subst (λ (x : Option D). GoesAt did (rooms.device old at.0) x) last
        (goes at.0 old run is_modelled is_run Valid keeps did at.1.1))

    pub leaves : IsOther rooms.leads_to (facts h (command_of run.words)).besides name
        → LeavesJournal (program h rooms disks outs errs) Valid name old run
    leaves beside = elim (find_name rooms.leads_to (facts h (command_of run.words)).journals
        ((facts h (command_of run.words)).outcome (rooms.file old)).journals name) [
          | inl none ↦ event_of name old run is_modelled is_run Valid keeps (Done' name old run)
              (idle name old run is_modelled is_run Valid keeps beside none.0
              (Done' name old run) none.1) refl
          | inr found ↦ event_of name old run is_modelled is_run Valid keeps
              (Done' name old run) (carried (Done' name old run) found) refl
        ]

  -- ---- the journal of a run that held records

  module _ (name : List ℕ) (old : R) (run : Run R O E) where
    pub held_among : (list : List (List ℕ)) → HasHeld h rooms disks outs errs name old run list
        → IsDoneAt rooms.leads_to (Js old run) name (Done' name old run)
    held_among list held = elim (find_name rooms.leads_to (facts h (command_of run.words)).journals
        ((facts h (command_of run.words)).outcome (rooms.file old)).journals name) [
          | inl none ↦ absurd (idle_holds list (broke_off (program h rooms disks outs errs) run)
              (heard_of (program h rooms disks outs errs) run)
              (subst (λ (d : Journaled). EventHolds list (event_with
              (broke_off (program h rooms disks outs errs) run)
              (heard_of (program h rooms disks outs errs) run) d)) none.1 held))
          | inr among ↦ among
        ]

    -- its name isn't that of a tile file
    pub held_own : (list : List (List ℕ)) → HasHeld h rooms disks outs errs name old run list
        → IsOwn name
    held_own list held =
        let found = held_among list held in
        own_place rooms.leads_to found.0 name found.1.0 (journal_own h run.words
        ((facts h (command_of run.words)).outcome (rooms.file old)).journals found.0
        (Done' name old run) found.1.1)

    -- the records follow the rules that those of all its journals follow
    pub held_rules : (Valid : List (List ℕ) → Type 0) → SpokenKeeps h Valid (command_of run.words)
        → (list : List (List ℕ)) → rooms.is_modelled old
        → IsRun h rooms disks outs errs old run
        → HasHeld h rooms disks outs errs name old run list → Valid list
    held_rules Valid keeps list is_modelled is_run held =
        held_valid Valid list ((owner_of h rooms disks outs errs name).run_event old run)
        (crash_states_in h rooms disks outs errs old name)
        (crash_states_in h rooms disks outs errs run.room name) held
        (leaves name old run is_modelled is_run Valid keeps
        (none_beside rooms.leads_to h (command_of run.words) name (held_own list held))).leads

  -- in an execution the first run has such a name
  pub first_own : (name : List ℕ) (list : List (List ℕ)) (old : R) (events : List (FileEvent R O E))
      → FirstHolds list (journal_events h rooms disks outs errs name old events) → IsOwn name
  first_own name list old [] held = absurd held
  first_own name list old (exited run ∷ events) held = held_own name old run list held
  first_own name list old (other ∷ events) held = absurd held

  -- runs leave of each journal what they have to leave
  pub serves : (name : List ℕ) → IsOwn name
      → ServesJournal (program h rooms disks outs errs) (AreRecords h) name
  serves name own = record {
    rooms = record {
      modelled = λ old is_run is_modelled is. is.back.is_modelled is_modelled;
      some = λ room n is_modelled. some_crash_state disks (rooms.file room n) (rooms.device room n)
          crash_state
          (contents.0 room n is_modelled);
    };
    leaves = λ old run is_modelled is. leaves name old run is_modelled is (AreRecords h)
        (spoken_records h (command_of run.words))
        (none_beside rooms.leads_to h (command_of run.words) name own);
  }
