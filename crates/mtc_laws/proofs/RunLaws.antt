-- What follows of each run, and how it ends as steps of a party.
use Rattle.std.proofs.Common.{◌≡◌, ◌≢◌, ◌≤◌, ◌⊎◌, inl, inr, ℕ, List, [], Option}
use Rattle.std.proofs.Common.{None, Some, codes, take, refl, sym, ap, subst, ◌∙◌}
use Rattle.std.proofs.Common.{arith, length-take, take_all, Bool, true, false, ◌||◌, ◌==◌}
use Rattle.std.proofs.Common.{IfSome}
use Rattle.std.proofs.lemmas.Bool.{ne_eqb}
use Rattle.std.proofs.lemmas.Bool.Decides.{leb_tells}
use Rattle.std.proofs.lemmas.List.{append_cancel_left, take-take}
use Rattle.std.specs.Io.KnownBytes.{Appends}
use Rattle.byte_formats.specs.Offsets.{IsBytes}
use Rattle.byte_formats.specs.Types.{HashFunction}
use Rattle.disk_core.specs.declared.disk.Disk.{Ghosts as Disks}
use Rattle.file_events.specs.Events.{CrashStates, Event, Leads, broke}
use Rattle.file_events.specs.Worlds.{breaks_off, clock_of, done_to, is_heard}
use Rattle.file_events.proofs.Histories.{step}
use Rattle.file_events.specs.Owners.{did_to}
use Rattle.mtc_io.specs.Counts.{Rose}
use Rattle.mtc_io.specs.Streams.{AppendsPrefix}
use Rattle.mtc_io.specs.declared.sink.Sink.{Ghosts as Sinks}
use Rattle.mtc_room.specs.declared.room.Room.{Ghosts as Rooms}
use Rattle.mtc_command.specs.Answers.{Ending, Reply, replied, room_failed, no_memory, said}
use Rattle.mtc_command.specs.Answers.{refused, status_of, out_of}
use Rattle.mtc_command.specs.Made.{HasKept, HasMade, Journaled, Leaves, Leaving, MayHaveMade}
use Rattle.mtc_command.specs.Served.{IsOther, Journals, LeavesEach}
use Rattle.mtc_command.specs.declared.answer.Said.TheVariants.{Done, Against, Collided}
use Rattle.mtc_command.specs.Lines.{line_of}
use Rattle.mtc_command.specs.Works.{ModelsNew}
use Rattle.mtc_command.proofs.Made.{OnlyNow, ReadsCrashState}
use Rattle.mtc_words.specs.Words.{command_of, known_word}
use Rattle.party_history.specs.Journals.{Continues}
use Rattle.party_history.specs.Rules.{AreRecords}
use Rattle.party_history.proofs.Taking.{takes}
use Rattle.mtc_top.specs.Concluded.{Concludes, Lost, Prints, PrintsPrefix, Reports}
use Rattle.mtc_top.specs.Facts.{Facts, facts}
use Rattle.mtc_top.specs.Run.{Answered, HasRun, WasCut}
use Rattle.mtc_laws.specs.RunLaws.{AllGoOn, PrefixesAreRuns, RunShows, RunSteps, RunsAreSteps}
use Rattle.mtc_laws.specs.RunLaws.{TookSome, AreAmong}
use Rattle.mtc_laws.proofs.Beside.{journal_own, none_beside}
use Rattle.mtc_laws.proofs.Commands.{spoken_records}
use Rattle.mtc_laws.proofs.HeardBytes.{breaks_known, prefix_some, took_none, unheard}
use Rattle.mtc_laws.proofs.Leaves.{IsDoneAt}
use Rattle.mtc_laws.proofs.Leaves.{contents_crash_state, find_name, leaves, modelled_file, of_each}
use Rattle.mtc_laws.proofs.Leaves.{still}
use Rattle.mtc_authority.specs.StoredTiles.{MakesTilesWhole}
use Rattle.mtc_laws.proofs.Streams.{adds_none, early_reply, is_command, makes_none, whole_none}
use Rattle.mtc_top.proofs.Runs.{HasEnded, HasFailed, RanOutOfMemory, WasCutOff, all_early}
use Rattle.mtc_top.proofs.Runs.{answered, cut_breaks, cut_prefix, ended, first_words}
use Rattle.mtc_top.proofs.Runs.{lost_of, not5_of, not8_of, only_words, prefix_of, reply_code}
use Rattle.mtc_top.proofs.Runs.{wrote_of}
use Rattle.mtc_top.specs.Executions.{program, Run}
use Rattle.mtc_laws.proofs.Aliases.{IsRun, owner_of, crash_states_in}
use Rattle.mtc_laws.proofs.Aliases.{ModelsFiles}

-- a prefix of a prefix
take_both : (j k : ℕ) (l : List ℕ) → (n : ℕ) × (take j (take k l) ≡ take n l)
take_both j k l = elim (leb_tells j k) [
  | inl less ↦ (j, take-take j k l less.1)
  | inr more ↦ (k, take_all j (take k l) (omega (arith, more.1, length-take k l)))
]

-- a prefix of what went out of a text is one of the text
prefix_on : (old new failed : Option (List ℕ)) (text whole : List ℕ) → TookSome old new
    → Appends old new text → AppendsPrefix old new whole → AppendsPrefix old failed text
    → AppendsPrefix old failed whole
prefix_on None new failed text whole took is of prefix = absurd took
prefix_on (Some xs) None failed text whole took is of prefix = absurd took
prefix_on (Some xs) (Some ys) failed text whole took is of prefix =
    let same : text ≡ take of.0 whole = append_cancel_left xs text (take of.0 whole)
    (sym is ∙ of.1) in
    let both = take_both prefix.0 of.0 whole in
    (both.0, subst (Appends (Some xs) failed) (ap (take prefix.0) same ∙ both.1) prefix.1)

-- a reply with another status than 0, 3 and 10 prints nothing
silent_reply : (P : List ℕ → Type 0) (reply : Reply) (status : ℕ) → status ≡ status_of reply
    → status ≢ 0 → status ≢ 3 → status ≢ 10 → P (out_of reply) → P []
silent_reply P (said Done text) status is not0 not3 not10 prints = absurd (not0 is)
silent_reply P (said Against text) status is not0 not3 not10 prints = absurd (not3 is)
silent_reply P (said Collided text) status is not0 not3 not10 prints = absurd (not10 is)
silent_reply P (refused why file reason) status is not0 not3 not10 prints = prints

module _ {R S D O E : Type 0} (h : List ℕ → List ℕ) (rooms : Rooms R S D) (disks : Disks D)
    (outs : Sinks O) (errs : Sinks E) (words : List (List ℕ))
    (old new : R) (out out' : O) (err err' : E) (status : ℕ)
    (is_run : HasRun h rooms disks outs errs words old new out out' err err' status) where
  abbrev Failed : Type 0
  Failed = HasFailed h rooms disks outs errs words old new out out' err err' status

  abbrev OutOfMemory : Type 0
  OutOfMemory = RanOutOfMemory h rooms disks outs errs words old new out out' err err' status

  abbrev Cut : Type 0
  Cut = WasCut h rooms disks outs errs words old new out out' err err' status

  abbrev how : HasEnded h rooms disks outs errs words old new out out' err err' status
  how = ended h rooms disks outs errs words old new out out' err err' status is_run

  abbrev went : Type 0
  went = is_heard status (outs.taken out) (outs.taken out') ≡ true

  -- no byte of a run goes out that the file system or memory ended
  not_failed : Failed → went → ⊥
  not_failed failed any = unheard status 5 (outs.taken out) (outs.taken out') failed.code
      (omega arith) (λ six. omega (arith, six)) failed.text any

  not_out_of_memory : OutOfMemory → went → ⊥
  not_out_of_memory out_of_memory any =
      unheard status 8 (outs.taken out) (outs.taken out') out_of_memory.code
      (omega arith) (λ six. omega (arith, six)) out_of_memory.text any

  breaks : Cut → breaks_off status ≡ true
  breaks was = cut_breaks h rooms disks outs errs words old new out out' err err' was.0 status was.1

  -- without an answer it was cut off
  cut_so : Failed ⊎ (OutOfMemory
      ⊎ WasCutOff h rooms disks outs errs words old new out out' err err' status) → went → Cut
  cut_so other any = elim other [
    | inl failed ↦ absurd (not_failed failed any)
    | inr others ↦ elim others [
      | inl out_of_memory ↦ absurd (not_out_of_memory out_of_memory any)
      | inr short ↦ short.cut
    ]
  ]

  -- one that answered didn't break off
  whole_of : Answered h rooms disks outs errs words old new out out' err err' status
      → breaks_off status ≡ false
  whole_of a = ap (λ (b : Bool). b || (status == 8))
      (ne_eqb status 5 (not5_of outs errs (known_word words) out out' err err' a.reply status
      a.concludes))
      ∙ ne_eqb status 8 (not8_of outs errs (known_word words) out out' err err' a.reply status
      a.concludes)

  pub run_shows : RunShows h rooms disks outs errs words old new out out' err err' status
  run_shows = record {
    known = elim how [
      | inl a ↦ elim a.concludes [
        | inl wrote ↦ subst (λ n. n ≤ 10) (sym wrote.code) (reply_code a.reply).known
        | inr lost ↦ omega (arith, lost.code)
      ]
      | inr other ↦ elim other [
        | inl failed ↦ omega (arith, failed.code)
        | inr others ↦ elim others [
          | inl out_of_memory ↦ omega (arith, out_of_memory.code)
          | inr short ↦ breaks_known status (breaks short.cut)
        ]
      ]
    ];
    only = only_words h rooms disks outs errs words old new out out' err err' status is_run;
    first = first_words h rooms disks outs errs words old new out out' err err' status is_run;
    early = all_early h rooms disks outs errs words old new out out' err err' status is_run;
    answers = answered h rooms disks outs errs words old new out out' err err' status is_run;
    complete = λ room sink memory. elim how [
      | inl a ↦ (
        λ is. sink (lost_of outs errs (known_word words) out out' err err' a.reply status
            a.concludes is).cause,
        a,
      )
      | inr other ↦ elim other [
        | inl failed ↦ absurd (room failed.cause)
        | inr others ↦ elim others [
          | inl out_of_memory ↦ absurd (memory out_of_memory.code)
          | inr short ↦ elim short.cause [
            | inl cause ↦ absurd (room cause)
            | inr eight ↦ absurd (memory eight)
          ]
        ]
      ]
    ];
    silent = λ not0 not3 not6 not10. elim how [
      | inl a ↦ (let wrote = wrote_of outs errs (known_word words) out out' err err' a.reply status
          a.concludes not6 in inl (silent_reply (Prints outs out out') a.reply status wrote.code
          not0 not3 not10 wrote.text))
      | inr other ↦ elim other [
        | inl failed ↦ inl failed.text
        | inr others ↦ elim others [
          | inl out_of_memory ↦ inl out_of_memory.text
          | inr short ↦ inr short.cut
        ]
      ]
    ];
    heard = λ any. elim how [
      | inl a ↦ inl a
      | inr other ↦ inr (cut_so other any)
    ];
    whole = λ any. elim how [
      | inl a ↦ inl (whole_of a)
      | inr other ↦ inr (cut_so other any)
    ];
    cut = λ was. (
      breaks was,
      adds_none h (command_of words) (rooms.file old) was.1.streams,
    );
  }

  -- ---- a prefix of what went out

  module _ (some : TookSome (outs.taken out) (outs.taken out')) (failed : O) (contents : E)
      (text : List ℕ) (is : Prints outs out out' text) (prefix : PrintsPrefix outs out failed text)
      (cause : Rose (outs.faults out) (outs.faults failed))
      (line : Reports errs err contents (line_of (known_word words) None (codes "OutputFailed")))
    where
      -- of a text of which a prefix went out
      lost : (whole : List ℕ) → PrintsPrefix outs out out' whole
          → Lost outs errs (known_word words) out failed err contents whole 6
      lost whole went = record {
        code = refl;
        some = prefix_some _ _ _ went some;
        cause = cause;
        prefix = prefix_on _ _ _ _ _ some is went prefix;
        line = line;
      }

      lost_by : (ending : Ending)
          → Concludes outs errs (known_word words) out out' err err' ending (rooms.why new) status
          → Concludes outs errs (known_word words) out failed err contents ending (rooms.why new) 6
      lost_by (replied reply) ends = inr (lost (out_of reply)
          (prefix_of outs errs (known_word words) out out' err err' reply status ends))
      lost_by (room_failed file) ends = absurd (took_none _ _ ends.nothing some)
      lost_by no_memory ends = absurd (took_none _ _ ends.nothing some)

      -- one that was cut off has done with its journals what is asked
      cut_is_run : Cut → HasRun h rooms disks outs errs words old new out failed err contents 6
      cut_is_run was =
          let cut = was.1 in
          let reply = said Done cut.text in record {
            ending = replied reply;
            ends = record {
              reply = cut.is;
              words = λ bad. absurd (is_command h (command_of words) cut.streams bad);
              not_words = λ one. let wrong : 0 ≡ 1 = one in absurd (omega (arith, wrong));
              fault = tt;
              early = λ is_modelled. early_reply h (command_of words) (rooms.file old) reply
                  cut.streams (cut.is is_modelled);
            };
            concludes = inl (inr (lost cut.text (cut_prefix h rooms disks outs errs words old new
                out out' err err' was.0 status cut)));
            back = is_run.back;
            made = λ is_modelled. record {
              no_file = (is_run.made is_modelled).no_file;
              unmade = λ none. let wrong : replied reply ≡ no_memory = none in absurd cc;
              left = cut.made is_modelled;
            };
            began = subst (λ (o : Option (List ℕ)). IfSome o (λ name.
                ModelsNew rooms disks name old new (replied reply)))
                (sym (makes_none h (command_of words) cut.streams)) tt;
            whole = subst (λ (o : Option (List ℕ)). IfSome o (λ name.
                MakesTilesWhole h rooms disks old new name (replied reply)))
                (sym (whole_none h (command_of words) cut.streams)) tt;
            only_read = is_run.only_read;
            spares = is_run.spares;
            second = is_run.second;
            stores = is_run.stores;
            valid = is_run.valid;
          }

      prefix_is_run : HasRun h rooms disks outs errs words old new out failed err contents 6
      prefix_is_run = elim is_run.concludes [
        | inl ends ↦ record {
          ending = is_run.ending;
          ends = is_run.ends;
          concludes = inl (lost_by is_run.ending ends);
          back = is_run.back;
          made = is_run.made;
          began = is_run.began;
          whole = is_run.whole;
          only_read = is_run.only_read;
          spares = is_run.spares;
          second = is_run.second;
          stores = is_run.stores;
          valid = is_run.valid;
        }
        | inr cut ↦ cut_is_run (is_run.ending, cut)
      ]

pub prefixes_are_runs : {R S D O E : Type 0} (h : List ℕ → List ℕ) (rooms : Rooms R S D)
    (disks : Disks D) (outs : Sinks O) (errs : Sinks E) → PrefixesAreRuns h rooms disks outs errs
prefixes_are_runs {R} {S} {D} {O} {E} h rooms disks outs errs words old new out out' failed err err'
    contents status text is_run some is prefix cause line =
    prefix_is_run h rooms disks outs errs words old new out out' err err' status is_run some failed
    contents text is prefix cause line

-- ---- a run is steps

module _ {R S D O E : Type 0} (h : HashFunction) (rooms : Rooms R S D) (disks : Disks D)
    (outs : Sinks O) (errs : Sinks E) (crash_state : ReadsCrashState disks) (only : OnlyNow disks)
    (contents : ModelsFiles rooms disks)
    (bytes : (d : D) (b : List ℕ) → disks.contents d ≡ Some b → IsBytes b) where
  all_go_on : (event : Event) (before now : CrashStates) → Leads (AreRecords h) event before now
      → AllGoOn h event before now
  all_go_on event before now leads starts index start first steps out there begins history =
      step (AreRecords h) (Continues h starts index first steps)
      (takes h starts index start there first begins steps) out before now event history leads

  module _ (old : R) (run : Run R O E) (is_modelled : rooms.is_modelled old)
      (is_run : IsRun h rooms disks outs errs old run) (name : List ℕ) where
    abbrev asked : Facts
    asked = facts h (command_of run.words)

    abbrev js : Journals
    js = (program h rooms disks outs errs).journals old run

    not_beside : ((did : Journaled) × AreAmong js name did)
        ⊎ IsOther rooms.leads_to asked.besides name → IsOther rooms.leads_to asked.besides name
    not_beside named = elim named [
      | inl did ↦ none_beside rooms.leads_to h (command_of run.words) name (journal_own h run.words
          (asked.outcome (rooms.file old)).journals name did.0 did.1)
      | inr other ↦ other
    ]

    -- the clock of the device doesn't go back
    later : IsOther rooms.leads_to asked.besides name
        → clock_of disks (rooms.device old name) ≤ clock_of disks (rooms.device run.room name)
    later beside = elim (find_name rooms.leads_to asked.journals
        (asked.outcome (rooms.file old)).journals name) [
          | inl none ↦ subst (λ (x : Option D). clock_of disks (rooms.device old name)
              ≤ clock_of disks x)
              (sym (still h rooms disks outs errs crash_state only contents bytes name old
              run is_modelled is_run (AreRecords h) (spoken_records h (command_of run.words)) beside
              none.0)) (omega arith)
          | inr among ↦ elim (ended h rooms disks outs errs run.words old run.room run.out
              run.out_after run.err run.err_after run.status is_run) [
                | inl a ↦ at HasMade (a.made is_modelled) among
                | inr other ↦ elim other [
                  | inl failed ↦ at MayHaveMade (failed.made is_modelled) among
                  | inr others ↦ elim others [
                    | inl out_of_memory ↦ at HasKept (out_of_memory.made is_modelled) among
                    | inr short ↦ at HasMade (short.cut.1.made is_modelled) among
                  ]
                ]
              ]
        ]
      where
        at : (How : Journaled → Leaving) → LeavesEach rooms disks old run.room js How
            → IsDoneAt rooms.leads_to js name (done_to rooms.leads_to js name)
            → clock_of disks (rooms.device old name) ≤ clock_of disks (rooms.device run.room name)
        at How all found =
            let journal = found.0 in
            let left = of_each (λ n d. Leaves disks (How d) (rooms.device old n)
            (rooms.device run.room n)) js journal (done_to rooms.leads_to js name) all
            found.1.1 in
            subst (λ (x : Option D). clock_of disks x ≤ clock_of disks (rooms.device run.room name))
            (contents.1 old journal name is_modelled found.1.0)
            (subst (λ (x : Option D). clock_of disks (rooms.device old journal) ≤ clock_of disks x)
            (contents.1 run.room journal name (is_run.back.is_modelled is_modelled) found.1.0)
            left.later)

    pub run_steps : ((did : Journaled) × AreAmong js name did)
        ⊎ IsOther rooms.leads_to asked.besides name
        → RunSteps h (program h rooms disks outs errs) old run name
    run_steps named =
        let beside = not_beside named in
        let left = leaves h rooms disks outs errs crash_state only contents bytes name old run
        is_modelled is_run (AreRecords h) (spoken_records h (command_of run.words)) beside in
        record {
          leaves = left;
          continues = all_go_on ((owner_of h rooms disks outs errs name).run_event old run)
              (crash_states_in h rooms disks outs errs old name)
              (crash_states_in h rooms disks outs errs run.room name) left.leads;
          stops = λ c at. all_go_on
              (broke (did_to (program h rooms disks outs errs) name old run))
              (crash_states_in h rooms disks outs errs old name) (λ d. d ≡ c) (left.times c at);
          as_read =
              λ c there. contents_crash_state disks (rooms.device run.room name) c crash_state
              (modelled_file disks (rooms.file run.room name) (rooms.device run.room name)
              (contents.0 run.room name (is_run.back.is_modelled is_modelled)) ∙ there);
          later = later beside;
        }

  pub runs_are_steps : RunsAreSteps h (program h rooms disks outs errs)
  runs_are_steps old run is_modelled is_run name named =
      run_steps old run is_modelled is_run name named
