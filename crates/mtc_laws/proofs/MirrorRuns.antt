-- What a run leaves of the journals of a mirror and of a cosigner that takes its steps from it.
use Rattle.std.proofs.Common.{◌≡◌, ◌⊎◌, inl, inr, ℕ, Bool, true, false, true≢false, ◌==◌}
use Rattle.std.proofs.Common.{◌||◌}
use Rattle.std.proofs.Common.{List, [], ◌∷◌, Option, Some, Result, Ok, refl, sym}
use Rattle.std.proofs.Common.{subst, ap, ◌∙◌}
use Rattle.std.proofs.Common.{IsOk, length}
use Rattle.std.proofs.lemmas.Bool.{ne_eqb}
use Rattle.byte_formats.specs.Offsets.{IsBytes}
use Rattle.byte_formats.specs.Types.{HashFunction, Text}
use Rattle.journal_core.specs.Format.{end_offset}
use Rattle.disk_core.specs.Disk.{NoNew}
use Rattle.disk_core.specs.declared.disk.Disk.{Ghosts as Disks}
use Rattle.file_events.specs.Events.{CrashStates, HalfDone, Happens, StatesRepresent, WasFound}
use Rattle.file_events.specs.Works.{LeavesAll, journal_work}
use Rattle.file_events.specs.Worlds.{Journals, Program, all_states, breaks_off, broke_off, done_to}
use Rattle.file_events.specs.Worlds.{event_with, heard_of, states_at}
use Rattle.mtc_io.specs.declared.sink.Sink.{Ghosts as Sinks}
use Rattle.mtc_room.specs.Places.{place_of}
use Rattle.mtc_room.specs.declared.room.Room.{Ghosts as Rooms}
use Rattle.mtc_words.specs.Commands.{CommandValue, child, mirror_advance, mirror_cosign}
use Rattle.mtc_words.specs.Words.{command_of, known_word}
use Rattle.mtc_words.specs.declared.error.WordError.{WordError}
use Rattle.cosigner_core.specs.Children.{child_refused, next_child}
use Rattle.cosigner_core.specs.Folds.{cosigner_fold}
use Rattle.cosigner_core.specs.Openings.{FoundCosigner}
use Rattle.cosigner_core.specs.Records.{advance_record, sign_record}
use Rattle.journal_core.proofs.Standing.{found_stands}
use Rattle.mirror_core.specs.Openings.{FoundMirror}
use Rattle.mirror_cosigner.specs.Refusals.{mirror_advance_refusal, mirror_cosign_refusal}
use Rattle.mirror_cosigner.specs.Requests.{advance_by_mirror, subtree_by_mirror}
use Rattle.mtc_command.specs.Made.{HasKept, Journaled, Leaves, MayHaveMade, reads}
use Rattle.mtc_command.specs.Made.{untouched}
use Rattle.mtc_command.specs.Served.{done_with}
use Rattle.mtc_command.proofs.Made.{OnlyNow, ReadsCrashState}
use Rattle.mtc_mirror_steps.specs.SecondStands.{SecondStands}
use Rattle.command_plans.specs.Outcomes.{opened_did}
use Rattle.mtc_plans.specs.Commands.{planned_outcome}
use Rattle.mtc_cosigner.specs.CosignerOutcomes.{advanced_text, child_line, cosigned_text}
use Rattle.mtc_plans.specs.CosignerPlans.{child_judged, child_reported}
use Rattle.mtc_plans.specs.Heard.{FindsBoth}
use Rattle.mtc_plans.specs.MirrorPlans.{mirror_advance_reported, mirror_cosign_reported}
use Rattle.mtc_plans.specs.MirrorPlans.{mirror_step_judged}
use Rattle.mtc_plans.specs.Steps.{StepReport}
use Rattle.party_history.specs.Rules.{AreRecords}
use Rattle.mtc_top.specs.Executions.{Run, program}
use Rattle.mtc_top.specs.Facts.{facts, facts_of}
use Rattle.mtc_top.proofs.Runs.{ended, not5_of, not8_of}
use Rattle.mtc_laws.specs.MirrorAgreement.{LeavesItToMirror}
use Rattle.mtc_laws.specs.MirrorLaws.{StepsThrough}
use Rattle.mtc_laws.specs.RunLaws.{AreAmong}
use Rattle.mtc_laws.proofs.Aliases.{IsRun, ModelsFiles, crash_states_in}
use Rattle.mtc_laws.proofs.AskedSteps.{mirror_stands, signer_stands}
use Rattle.mtc_laws.proofs.Beside.{IsOwn, none_beside}
use Rattle.mtc_laws.proofs.ByMirror.{May, WorksOnBoth, WorksOnOne, added_only}
use Rattle.mtc_laws.proofs.ByMirror.{child_read, child_works, first_at, later_at}
use Rattle.mtc_laws.proofs.ByMirror.{may_leave, none_at, works_on_both}
use Rattle.mtc_laws.proofs.Commands.{spoken_records}
use Rattle.mtc_laws.proofs.HeardBytes.{ended_whole}
use Rattle.mtc_laws.proofs.Leaves.{contents_crash_state, file_bytes, leaves, modelled_file, of_each}
use Rattle.mtc_laws.proofs.LogLeaves.{still_kept}
use Rattle.mtc_laws.proofs.Printed.{MirrorsAreSound}
use Rattle.mtc_laws.proofs.Streams.{plain_command}

module _ {R S D O E : Type 0} (h : HashFunction) (rooms : Rooms R S D) (disks : Disks D)
    (outs : Sinks O) (errs : Sinks E) (crash_state : ReadsCrashState disks) (only : OnlyNow disks)
    (contents : ModelsFiles rooms disks)
    (bytes : (d : D) (b : List ℕ) → disks.contents d ≡ Some b → IsBytes b)
    (sized : (b : List ℕ) → length (h b) ≡ 32) (sound : MirrorsAreSound h) where
  abbrev p : Program
  p = program h rooms disks outs errs

  module _ (mirror signer : Text) (two : place_of rooms.leads_to mirror
      ≡ place_of rooms.leads_to signer → ⊥) (old : R) (run : Run R O E)
      (is_modelled : rooms.is_modelled old) (is_run : IsRun h rooms disks outs errs old run) where
    abbrev js : Journals
    js = p.journals old run

    abbrev did_mirror : Journaled
    did_mirror = done_to rooms.leads_to js mirror

    abbrev did_signer : Journaled
    did_signer = done_to rooms.leads_to js signer

    abbrev broken : Bool
    broken = broke_off p run

    abbrev heard : Bool
    heard = heard_of p run

    abbrev before : Text → CrashStates
    before name = crash_states_in h rooms disks outs errs old name

    abbrev now : Text → CrashStates
    now name = crash_states_in h rooms disks outs errs run.room name

    -- ---- what such a run has done

    -- it was about both journals: a mirror was found in the one, and a cosigner in the other, which
    -- may get a record
    pub record WorkedOnBoth : Type 0 where
      pub shown : List Text
      pub list : List Text
      pub more : Option Text
      pub mirror_did : did_mirror ≡ reads shown
      pub signer_did : did_signer ≡ opened_did list more
      pub found : WasFound (AreRecords h) (before mirror) shown
      pub may : May h (reads shown) (opened_did list more)
      pub kept : broken ≡ true → NoNew (before mirror) (now mirror)
      pub stands : NoNew (before signer) (now signer) ⊎ StatesRepresent (now mirror) shown

    -- or it was about one of them at most
    abbrev pub Worked : Type 0
    Worked = (did_signer ≡ untouched)
        ⊎ (((did_mirror ≡ untouched) × May h untouched did_signer) ⊎ WorkedOnBoth)

    module _ (command : CommandValue) (spoken : command_of run.words ≡ Ok command) where
      js_are : (names : List Text) (dids : List Journaled) → (facts_of h command).journals ≡ names
          → (planned_outcome h command (rooms.file old)).journals ≡ dids
          → js ≡ done_with names dids
      js_are names dids named is =
          ap (λ (r : Result CommandValue WordError).
          done_with (facts h r).journals ((facts h r).outcome (rooms.file old)).journals) spoken
          ∙ (ap (λ (all : List Text). done_with all
          (planned_outcome h command (rooms.file old)).journals) named
          ∙ ap (λ (all : List Journaled). done_with names all) is)

      -- no journal was opened
      none_worked : (names : List Text) → (facts_of h command).journals ≡ names
          → (planned_outcome h command (rooms.file old)).journals ≡ [] → Worked
      none_worked names named is = inl (ap (λ (all : Journals). done_to rooms.leads_to all signer)
          (js_are names [] named is) ∙ none_at rooms.leads_to signer names)

      -- only that of the cosigner is one of the command's
      alone : (name : Text) → place_of rooms.leads_to name ≡ place_of rooms.leads_to signer
          → (facts_of h command).journals ≡ name ∷ [] → did_mirror ≡ untouched
      alone name same named =
          ap (λ (all : Journals). done_to rooms.leads_to all mirror) (js_are (name ∷ [])
          (planned_outcome h command (rooms.file old)).journals named refl)
          ∙ go (planned_outcome h command (rooms.file old)).journals
        where
          differ : place_of rooms.leads_to name ≡ place_of rooms.leads_to mirror → ⊥
          differ is = two (sym is ∙ same)

          go : (dids : List Journaled)
              → done_to rooms.leads_to (done_with (name ∷ []) dids) mirror ≡ untouched
          go [] = none_at rooms.leads_to mirror (name ∷ [])
          go (did ∷ dids) = later_at rooms.leads_to mirror name [] did dids differ

    -- ---- a cosigner takes a step of its mirror

    -- a statement on what is left of a file is so of each name of its place
    at_place : (name other : Text) → place_of rooms.leads_to name ≡ place_of rooms.leads_to other
        → (P : Option D → Option D → Type 0)
        → P (rooms.device old name) (rooms.device run.room name)
        → P (rooms.device old other) (rooms.device run.room other)
    at_place name other same P is =
        let first = contents.1 old name other is_modelled same in
        let last = contents.1 run.room name other (is_run.back.is_modelled is_modelled) same in
        subst (λ (x : Option D). P x (rooms.device run.room other)) first
        (subst (λ (x : Option D). P (rooms.device old name) x) last is)

    -- where the run broke off, nothing new is left of a journal that was only read
    read_kept : (name : Text) (list : List Text) → AreAmong js name (reads list)
        → (facts h (command_of run.words)).streams ≡ false → broken ≡ true
        → NoNew (before name) (now name)
    read_kept name list among plain broke =
        elim (ended h rooms disks outs errs run.words old run.room run.out run.out_after
        run.err run.err_after run.status is_run) [
          | inl a ↦
              (let not5 = not5_of outs errs (known_word run.words) run.out run.out_after
              run.err run.err_after a.reply run.status a.concludes in
              let not8 = not8_of outs errs (known_word run.words) run.out run.out_after
              run.err run.err_after a.reply run.status a.concludes in
              absurd (true≢false (sym broke ∙ ended_whole (breaks_off run.status) heard
              (ap (λ (b : Bool). b || (run.status == 8)) (ne_eqb run.status 5 not5)
              ∙ ne_eqb run.status 8 not8))))
          | inr other ↦ elim other [
            | inl failed ↦ (of_each (λ n d. Leaves disks (MayHaveMade d) (rooms.device old n)
                (rooms.device run.room n)) js name (reads list) (failed.made is_modelled)
                among).crash_states.now_is
            | inr others ↦ elim others [
              | inl out_of_memory ↦ (of_each (λ n d. Leaves disks (HasKept d) (rooms.device old n)
                  (rooms.device run.room n)) js name (reads list)
                  (out_of_memory.made is_modelled) among).crash_states.now_is
              | inr short ↦ absurd (true≢false (sym short.cut.1.streams ∙ plain))
            ]
          ]
        ]

    module _ (name journal : Text)
        (at_signer : place_of rooms.leads_to name ≡ place_of rooms.leads_to signer)
        (at_mirror : place_of rooms.leads_to journal ≡ place_of rooms.leads_to mirror)
        (reported : FoundCosigner → FoundMirror → StepReport) (command : CommandValue)
        (spoken : command_of run.words ≡ Ok command)
        (plain : (facts h (command_of run.words)).streams ≡ false)
        (named : (facts_of h command).journals ≡ name ∷ (journal ∷ [])) where
      -- each record that it reports is one that the mirror asks
      abbrev Asks : FindsBoth h (rooms.file old) name journal → Type 0
      Asks both = May h (reads both.mirrored.records)
          (opened_did both.found.records (reported both.found both.mirrored).1)

      step_worked : (both : FindsBoth h (rooms.file old) name journal)
          → (planned_outcome h command (rooms.file old)).journals
          ≡ opened_did both.found.records (reported both.found both.mirrored).1
          ∷ (reads both.mirrored.records ∷ []) → Asks both → Worked
      step_worked both did asks =
          let shown = both.mirrored.records in
          let signed = opened_did both.found.records (reported both.found both.mirrored).1 in
          let are = js_are command spoken (name ∷ (journal ∷ [])) (signed ∷ (reads shown ∷ []))
          named did in
          let stand = mirror_stands h rooms disks outs errs contents bytes sized sound name journal
          old run is_modelled both in
          let there = contents_crash_state disks (rooms.device old journal) both.mirror_held
          crash_state (modelled_file disks (rooms.file old journal) (rooms.device old journal)
          (contents.0 old journal is_modelled) ∙ both.mirror_there) in
          let second : SecondStands rooms disks old run.room
          (done_with (name ∷ (journal ∷ [])) (signed ∷ (reads shown ∷ []))) =
          subst (SecondStands rooms disks old run.room) are (is_run.second is_modelled) in
          inr (inr (record {
            shown = shown;
            list = both.found.records;
            more = (reported both.found both.mirrored).1;
            mirror_did = ap (λ (all : Journals). done_to rooms.leads_to all mirror) are
                ∙ (later_at rooms.leads_to mirror name (journal ∷ []) signed (reads shown ∷ [])
                (λ is. two (sym is ∙ at_signer))
                ∙ first_at rooms.leads_to mirror journal [] (reads shown) [] at_mirror);
            signer_did = ap (λ (all : Journals). done_to rooms.leads_to all signer) are
                ∙ first_at rooms.leads_to signer name (journal ∷ []) signed (reads shown ∷ [])
                at_signer;
            found = at_place journal mirror at_mirror
                (λ x y. WasFound (AreRecords h) (states_at disks x) shown) (record {
                  bytes = both.mirror_held;
                  state = there;
                  stands = stand.0;
                  valid = inr (inr (subst IsOk (sym stand.1) refl));
                });
            may = asks;
            kept = λ broke. at_place journal mirror at_mirror
                (λ x y. NoNew (states_at disks x) (states_at disks y))
                (read_kept journal shown (subst (λ (all : Journals). AreAmong all journal
                (reads shown)) (sym are) (inr (inl (refl, refl)))) plain broke);
            stands = elim second [
              | inl kept ↦ inl (at_place name signer at_signer
                  (λ x y. NoNew (states_at disks x) (states_at disks y)) kept)
              | inr all ↦ inr (at_place journal mirror at_mirror
                  (λ x y. StatesRepresent (states_at disks y) shown) all)
            ];
          }))

      both_worked : ((planned_outcome h command (rooms.file old)).journals ≡ [])
          ⊎ WorksOnBoth h (rooms.file old) name journal reported
          (planned_outcome h command (rooms.file old))
          → ((both : FindsBoth h (rooms.file old) name journal) → Asks both) → Worked
      both_worked (inl none) asks = none_worked command spoken (name ∷ (journal ∷ [])) named none
      both_worked (inr works) asks = step_worked works.both works.did (asks works.both)

    -- the record of an Advance or a Sign is one that the mirror asks
    advance_asks : (name journal : Text) (size : ℕ)
        (both : FindsBoth h (rooms.file old) name journal) → May h (reads both.mirrored.records)
        (opened_did both.found.records
        (mirror_advance_reported h size both.found both.mirrored).1)
    advance_asks name journal size both =
        let m = both.mirrored.state in
        let signs = both.found.state in
        let r = advance_by_mirror h m signs.held size in
        let list = both.found.records in
        added_only (λ more. May h (reads both.mirrored.records) (opened_did list more))
        mirror_step_judged (advance_record r.size r.root r.proof) (advanced_text size)
        (mirror_advance_refusal h m signs false (end_offset list) size) (λ fits. record {
          state = m;
          is_mirror = (mirror_stands h rooms disks outs errs contents bytes sized sound name journal
              old run is_modelled both).1;
          signer = signs;
          is_cosigner = (signer_stands h rooms disks outs errs contents bytes sized sound name
              journal old run is_modelled both).1;
          asked = inl (record { size = size; allowed = fits; is = refl });
        }) tt

    sign_asks : (name journal : Text) (start end : ℕ)
        (both : FindsBoth h (rooms.file old) name journal) → May h (reads both.mirrored.records)
        (opened_did both.found.records
        (mirror_cosign_reported h start end both.found both.mirrored).1)
    sign_asks name journal start end both =
        let m = both.mirrored.state in
        let signs = both.found.state in
        let r = subtree_by_mirror h m signs.held start end in
        let list = both.found.records in
        added_only (λ more. May h (reads both.mirrored.records) (opened_did list more))
        mirror_step_judged (sign_record signs.key.next r.start r.end r.hash r.proof)
        (cosigned_text signs r)
        (mirror_cosign_refusal h m signs false (end_offset list) start end) (λ fits. record {
          state = m;
          is_mirror = (mirror_stands h rooms disks outs errs contents bytes sized sound name journal
              old run is_modelled both).1;
          signer = signs;
          is_cosigner = (signer_stands h rooms disks outs errs contents bytes sized sound name
              journal old run is_modelled both).1;
          asked = inr (record { start = start; stop = end; allowed = fits; is = refl });
        }) tt

    -- ---- a cosigner makes a lower tree

    child_asks : (name : Text) (works : WorksOnOne h (rooms.file old) name
        (planned_outcome h (child name) (rooms.file old)))
        → May h untouched (opened_did works.found.records (child_reported works.found).1)
    child_asks name works =
        let list = works.found.records in
        let signs = works.found.state in
        let are = file_bytes disks (rooms.file old name) (rooms.device old name) works.held bytes
        (contents.0 old name is_modelled) works.there in
        let stand = found_stands (cosigner_fold h) works.held works.found are works.is_cosigner in
        added_only (λ more. May h untouched (opened_did list more)) child_judged
        (next_child signs) (child_line signs.key.children)
        (child_refused signs false (end_offset list))
        (λ fits. child_read h list signs (end_offset list) stand.1 fits) tt

    child_worked : (name : Text) → place_of rooms.leads_to name ≡ place_of rooms.leads_to signer
        → command_of run.words ≡ Ok (child name) → Worked
    child_worked name same spoken = elim (child_works h (rooms.file old) name) [
      | inl none ↦ none_worked (child name) spoken (name ∷ []) refl none
      | inr works ↦
          (let did = opened_did works.found.records (child_reported works.found).1 in
          let is = ap (λ (all : Journals). done_to rooms.leads_to all signer)
          (js_are (child name) spoken (name ∷ []) (did ∷ []) refl works.did)
          ∙ first_at rooms.leads_to signer name [] did [] same in
          inr (inl (
            alone (child name) spoken name same refl,
            subst (May h untouched) (sym is) (child_asks name works),
          )))
    ]

    -- ---- by each command that the mirror has

    step_by : (name journal : Text) → place_of rooms.leads_to name ≡ place_of rooms.leads_to signer
        → place_of rooms.leads_to journal ≡ place_of rooms.leads_to mirror
        → (command : CommandValue) → command_of run.words ≡ Ok command
        → StepsThrough name journal command → Worked
    step_by name journal at_signer at_mirror command spoken (inl a) =
        let said = spoken ∙ ap Ok a.1 in
        let asked = mirror_advance name journal a.0 in
        both_worked name journal at_signer at_mirror (mirror_advance_reported h a.0) asked said
        (plain_command h asked said refl) refl
        (works_on_both h (rooms.file old) name journal (mirror_advance_reported h a.0))
        (advance_asks name journal a.0)
    step_by name journal at_signer at_mirror command spoken (inr a) =
        let said = spoken ∙ ap Ok a.1.1 in
        let asked = mirror_cosign name journal a.0 a.1.0 in
        both_worked name journal at_signer at_mirror (mirror_cosign_reported h a.0 a.1.0) asked said
        (plain_command h asked said refl) refl
        (works_on_both h (rooms.file old) name journal (mirror_cosign_reported h a.0 a.1.0))
        (sign_asks name journal a.0 a.1.0)

    pub worked : LeavesItToMirror h p mirror signer old run → Worked
    worked (inl is) = inl is
    worked (inr (inl read)) =
        inr (inl (read.0, subst (May h untouched) (sym read.1.1) tt))
    worked (inr (inr by)) = by_command by.1.1.1.1
      where
        same : place_of rooms.leads_to by.1.1.0 ≡ place_of rooms.leads_to signer
        same = by.1.1.1.0

        by_command : ((journal : Text) × ((place_of rooms.leads_to journal
            ≡ place_of rooms.leads_to mirror) × StepsThrough by.1.1.0 journal by.0))
            ⊎ (by.0 ≡ child by.1.1.0) → Worked
        by_command (inl step) =
            step_by by.1.1.0 step.0 same step.1.0 by.0 by.1.0 step.1.1
        by_command (inr is) = child_worked by.1.1.0 same (by.1.0 ∙ ap Ok is)

    -- ---- what it may do, and what it leaves of both at once

    pub may_do : Worked → May h did_mirror did_signer
    may_do (inl is) = may_leave h did_mirror did_signer is
    may_do (inr (inl one)) = subst (λ (m : Journaled). May h m did_signer) (sym one.0) one.1
    may_do (inr (inr both)) = subst (λ (m : Journaled). May h m did_signer) (sym both.mirror_did)
        (subst (May h (reads both.shown)) (sym both.signer_did) both.may)

    abbrev Both : Bool → Journaled → Journaled → Type 0
    Both b m s = LeavesAll b (journal_work (AreRecords h) mirror m
        ∷ journal_work (AreRecords h) signer s ∷ []) (all_states p old) (all_states p run.room)

    abbrev OfMirror : Bool → Journaled → Type 0
    OfMirror b m = Happens (AreRecords h) (event_with b heard m) (before mirror) (now mirror)

    abbrev OfSigner : Bool → Journaled → Type 0
    OfSigner b s = Happens (AreRecords h) (event_with b heard s) (before signer) (now signer)

    signer_idle : (b : Bool) (m s : Journaled) → s ≡ untouched → OfMirror b m → OfSigner b s
        → Both b m s
    signer_idle false m s is one other = (one, (other, tt))
    signer_idle true m s is one other =
        let kept = still_kept (AreRecords h) true heard s (before signer) (now signer) is other in
        let half = subst (λ (d : Journaled). HalfDone (AreRecords h) d (before signer)
        (now signer)) (sym is) kept in
        elim one [
          | inl k ↦ inl (k, (kept, tt))
          | inr done ↦ inr (done, (half, tt))
        ]

    mirror_idle : (b : Bool) (m s : Journaled) → m ≡ untouched → OfMirror b m → OfSigner b s
        → Both b m s
    mirror_idle false m s is one other = (one, (other, tt))
    mirror_idle true m s is one other =
        let kept = still_kept (AreRecords h) true heard m (before mirror) (now mirror) is one in
        let half = subst (λ (d : Journaled). HalfDone (AreRecords h) d (before mirror)
        (now mirror)) (sym is) kept in
        elim other [
          | inl k ↦ inl (kept, (k, tt))
          | inr done ↦ inr (half, (done, tt))
        ]

    both_left : (b : Bool) (m s : Journaled) (shown : List Text) → m ≡ reads shown
        → WasFound (AreRecords h) (before mirror) shown
        → (b ≡ true → NoNew (before mirror) (now mirror))
        → NoNew (before signer) (now signer) ⊎ StatesRepresent (now mirror) shown
        → OfMirror b m → OfSigner b s → Both b m s
    both_left false m s shown is found kept stands one other = (one, (other, tt))
    both_left true m s shown is found kept (inl k) one other = inl (kept refl, (k, tt))
    both_left true m s shown is found kept (inr all) one (inl k) = inl (kept refl, (k, tt))
    both_left true m s shown is found kept (inr all) one (inr done) = inr (
      subst (λ (d : Journaled). HalfDone (AreRecords h) d (before mirror) (now mirror)) (sym is)
          (found, all),
      (done, tt),
    )

    module _ (mirror_own : IsOwn mirror) (signer_own : IsOwn signer) where
      left_of : (name : Text) → IsOwn name → Happens (AreRecords h)
          (event_with broken heard (done_to rooms.leads_to js name)) (before name) (now name)
      left_of name own =
          (leaves h rooms disks outs errs crash_state only contents bytes name old run is_modelled
          is_run (AreRecords h) (spoken_records h (command_of run.words))
          (none_beside rooms.leads_to h (command_of run.words) name own)).leads.happens

      pub both_leave : Worked → Both broken did_mirror did_signer
      both_leave (inl is) = signer_idle broken did_mirror did_signer is
          (left_of mirror mirror_own) (left_of signer signer_own)
      both_leave (inr (inl one)) = mirror_idle broken did_mirror did_signer one.0
          (left_of mirror mirror_own) (left_of signer signer_own)
      both_leave (inr (inr both)) = both_left broken did_mirror did_signer both.shown
          both.mirror_did both.found both.kept both.stands (left_of mirror mirror_own)
          (left_of signer signer_own)
