-- What is known of a run that did its work, or of which a byte may have gone out.
use Rattle.std.proofs.Common.{◌≡◌, ◌⊎◌, inl, inr, ℕ, ◌<◌, true, false, true≢false, IsErr, List, []}
use Rattle.std.proofs.Common.{◌∷◌, ◌++◌, length, Option, refl, sym, subst, ap, ◌∙◌}
use Rattle.std.proofs.Common.{arith}
use Rattle.byte_formats.specs.Types.{HashFunction}
use Rattle.disk_core.specs.declared.disk.Disk.{Ghosts as Disks}
use Rattle.file_events.specs.Events.{ran, EventHolds}
use Rattle.file_events.specs.Worlds.{breaks_off, broke_off, heard_of}
use Rattle.file_events.proofs.Owners.{released_event}
use Rattle.file_events.specs.Owners.{did_to}
use Rattle.mtc_io.specs.declared.sink.Sink.{Ghosts as Sinks}
use Rattle.mtc_room.specs.declared.room.Room.{Ghosts as Rooms}
use Rattle.mtc_words.specs.Words.{command_of, known_word}
use Rattle.mtc_command.specs.Answers.{Reply, out_of, refused, replied, said, status_of}
use Rattle.mtc_command.specs.Answers.{stopped_code}
use Rattle.mtc_command.specs.Wanted.{Meets}
use Rattle.mtc_command.specs.declared.answer.Said.TheVariants.{Done}
use Rattle.mtc_command.specs.declared.answer.Stopped.{Stopped}
use Rattle.mtc_command.specs.declared.answer.Stopped.TheVariants.{BadWords}
use Rattle.mtc_command.specs.Made.{Journaled, appended, reads}
use Rattle.mtc_top.specs.Concluded.{Concludes, Prints, PrintsPrefix, Wrote}
use Rattle.mtc_top.specs.Facts.{Facts, facts}
use Rattle.mtc_laws.specs.RunLaws.{RunShows}
pub use Rattle.mtc_laws.proofs.Leaves.{contents_crash_state, file_bytes, held_rules, modelled_file}
use Rattle.mtc_laws.proofs.HeardBytes.{heard_ways, heard_whole, prefix_none}
use Rattle.mtc_laws.proofs.RunLaws.{run_shows}
use Rattle.mtc_laws.proofs.Streams.{is_command}
use Rattle.mtc_top.proofs.Runs.{cut_prefix, lost_of, prefix_of, wrote_of}
use Rattle.mtc_top.specs.Executions.{program, HasPrinted, HasStreamed, Run}
use Rattle.mtc_laws.proofs.Aliases.{IsRun, DidWith, owner_of, HasHeld, IsHeard}

-- a refusal has another status than 0
no_stop : (why : Stopped) → stopped_code why ≡ 0 → ⊥
no_stop BadWords is = omega (arith, is)
no_stop other is = omega (arith, is)

module _ {R S D O E : Type 0} (h : HashFunction) (rooms : Rooms R S D) (disks : Disks D)
    (outs : Sinks O) (errs : Sinks E) (old : R) (run : Run R O E)
    (is_run : IsRun h rooms disks outs errs old run) (heard : IsHeard outs run) where
  shows : RunShows h rooms disks outs errs run.words old run.room run.out run.out_after run.err
      run.err_after run.status
  shows = run_shows h rooms disks outs errs run.words old run.room run.out run.out_after
      run.err run.err_after run.status is_run

  abbrev word : List ℕ
  word = known_word run.words

  abbrev asked : Facts
  asked = facts h (command_of run.words)

  -- the reply went out, or standard output failed at it
  abbrev Went : Reply → Type 0
  Went reply = Concludes outs errs word run.out run.out_after run.err run.err_after
      (replied reply) (rooms.why run.room) run.status

  -- a prefix of it went out when a file failed or memory was refused
  pub record WentInPart (reply : Reply) : Type 0 where
    pub streams : asked.streams ≡ true
    pub breaks : breaks_off run.status ≡ true
    pub prefix : PrintsPrefix outs run.out run.out_after (out_of reply)

  -- what it replied
  pub record HasReplied : Type 0 where
    pub reply : Reply
    pub is : rooms.is_modelled old ⊎ IsErr (command_of run.words)
        → Meets (asked.outcome (rooms.file old)).answer reply
    pub went : Went reply ⊎ WentInPart reply

  pub heard_run : HasReplied
  heard_run = elim (shows.heard heard) [
    | inl a ↦ record { reply = a.reply; is = a.is; went = inl a.concludes }
    | inr was ↦ record {
      reply = said Done was.1.text;
      is = λ where_. elim where_ [
        | inl is_modelled ↦ was.1.is is_modelled
        | inr bad ↦ absurd (is_command h (command_of run.words) was.1.streams bad)
      ];
      went = inr (record {
        streams = was.1.streams;
        breaks = (shows.cut was).0;
        prefix = cut_prefix h rooms disks outs errs run.words old run.room run.out run.out_after
            run.err run.err_after was.0 run.status was.1;
      });
    }
  ]

  heard_prefix : PrintsPrefix outs run.out run.out_after (out_of heard_run.reply)
  heard_prefix = elim heard_run.went [
    | inl went ↦ prefix_of outs errs word run.out run.out_after run.err run.err_after
        heard_run.reply run.status went
    | inr part ↦ part.prefix
  ]

  heard_wrote : run.status ≡ 0 → Wrote outs errs word run.out run.out_after run.err
      run.err_after heard_run.reply run.status
  heard_wrote zero_ = elim heard_run.went [
    | inl went ↦ wrote_of outs errs word run.out run.out_after run.err run.err_after
        heard_run.reply run.status went (λ six. omega (arith, zero_, six))
    | inr part ↦ absurd (true≢false (sym part.breaks ∙ ap breaks_off zero_))
  ]

  -- a command that doesn't write while it reads wasn't cut off
  not_in_part : asked.streams ≡ false → Went heard_run.reply
  not_in_part plain = elim heard_run.went [
    | inl went ↦ went
    | inr part ↦ absurd (true≢false (sym part.streams ∙ plain))
  ]

  -- a text that was asked for went out, or a prefix of it
  pub printed_so : asked.streams ≡ false → (text : List ℕ) → heard_run.reply ≡ said Done text
      → HasPrinted (program h rooms disks outs errs) run text
  printed_so plain text is = record {
    ends = elim (not_in_part plain) [
      | inl wrote ↦ inl (wrote.code ∙ ap status_of is)
      | inr lost ↦ inr lost.code
    ];
    prefix = subst (λ (r : Reply). PrintsPrefix outs run.out run.out_after (out_of r)) is
        heard_prefix;
    whole = λ zero_. subst (λ (r : Reply). Prints outs run.out run.out_after (out_of r)) is
        (heard_wrote zero_).text;
  }

  -- the same of a command that may write while it reads
  pub streamed_so : (text : List ℕ) → heard_run.reply ≡ said Done text
      → HasStreamed (program h rooms disks outs errs) run text
  streamed_so text is = record {
    ends = elim heard_run.went [
      | inl went ↦ elim went [
        | inl wrote ↦ inl (wrote.code ∙ ap status_of is)
        | inr lost ↦ inr (inl lost.code)
      ]
      | inr part ↦ inr (inr part.breaks)
    ];
    prefix = subst (λ (r : Reply). PrintsPrefix outs run.out run.out_after (out_of r)) is
        heard_prefix;
    whole = λ zero_. subst (λ (r : Reply). Prints outs run.out run.out_after (out_of r)) is
        (heard_wrote zero_).text;
  }

  -- no refusal was asked for
  pub not_refused : (why : Stopped) (file : Option (List ℕ)) (reason : List ℕ)
      → heard_run.reply ≡ refused why file reason → ⊥
  not_refused why file reason is = elim (heard_ways run.status (outs.taken run.out)
      (outs.taken run.out_after) heard) [
        | inl zero_ ↦ no_stop why (ap status_of (sym is) ∙ sym (heard_wrote zero_).code ∙ zero_)
        | inr any ↦ elim any [
          | inl took ↦ prefix_none _ _ (subst (λ (r : Reply).
              PrintsPrefix outs run.out run.out_after (out_of r)) is heard_prefix) took
          | inr lost ↦ elim heard_run.went [
            | inl went ↦ (let some = (lost_of outs errs word run.out run.out_after run.err
                run.err_after heard_run.reply run.status went lost.0).some in
                let empty : 0 < 0 = subst (λ (r : Reply). 0 < length (out_of r)) is some in
                omega (arith, empty))
            | inr part ↦ absurd (true≢false (sym part.breaks ∙ ap breaks_off lost.0))
          ]
        ]
      ]

  -- what it did with a journal is its event
  pub heard_event : (name : List ℕ) (did : Journaled)
      → DidWith h rooms disks outs errs old run name did
      → (owner_of h rooms disks outs errs name).run_event old run ≡ ran true did
  heard_event name did among = released_event (broke_off (program h rooms disks outs errs) run)
      (heard_of (program h rooms disks outs errs) run)
      (did_to (program h rooms disks outs errs) name old run) did
      (heard_whole (breaks_off run.status) (heard_of (program h rooms disks outs errs) run) heard)
      heard among

  -- it has held the records that it found
  pub heard_read : (name : List ℕ) (list : List (List ℕ))
      → DidWith h rooms disks outs errs old run name (reads list)
      → HasHeld h rooms disks outs errs name old run list
  heard_read name list did =
      subst (EventHolds list) (sym (heard_event name (reads list) did)) refl

  -- or its records with the one that it added
  pub heard_held : (name : List ℕ) (list : List (List ℕ)) (body : List ℕ)
      → DidWith h rooms disks outs errs old run name (appended list body)
      → HasHeld h rooms disks outs errs name old run (list ++ body ∷ [])
  heard_held name list body did =
      subst (EventHolds (list ++ body ∷ [])) (sym (heard_event name (appended list body) did)) refl
