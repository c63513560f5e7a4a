-- How a run ends: it answers, or the file system failed, or memory was refused.
use Rattle.std.proofs.Common.{◌≡◌, ◌≢◌, ◌≤◌, ◌<◌, ◌⊎◌, inl, inr, ℕ, List, [], ◌++◌, length}
use Rattle.std.proofs.Common.{refl, sym, subst, ◌∙◌, arith, IsErr, IfSome, true, ◌==◌, Result, Ok}
use Rattle.std.proofs.Common.{Err}
use Rattle.std.proofs.lemmas.Bool.{eq-eqb, or_left, or_right}
use Rattle.file_events.specs.Worlds.{breaks_off}
use Rattle.disk_core.specs.declared.disk.Disk.{Ghosts as Disks}
use Rattle.mtc_io.specs.Counts.{Rose}
use Rattle.mtc_io.specs.declared.fault.Failed.{Failed}
use Rattle.mtc_io.specs.declared.sink.Sink.{Ghosts as Sinks}
use Rattle.mtc_room.specs.declared.room.Room.{Ghosts as Rooms}
use Rattle.mtc_words.specs.Words.{command_of, known_word}
use Rattle.mtc_command.specs.Answers.{Ending, Reply, replied, room_failed, no_memory, said, refused}
use Rattle.mtc_command.specs.Answers.{status_of, out_of, stop_ending, IsEarly}
use Rattle.mtc_command.specs.declared.answer.Stop.{Stop}
use Rattle.mtc_command.specs.Made.{untouched, HasKept, MayHaveMade}
use Rattle.mtc_command.specs.Served.{EndsAs, HasDone, Journals, LeavesEach, LeavesJournals, OfEach}
use Rattle.mtc_command.specs.Served.{done_with}
use Rattle.mtc_command.specs.Steps.{Outcome}
use Rattle.mtc_command.specs.Stored.{StoresBeside}
use Rattle.mtc_command.specs.Valid.{KeepsValid}
use Rattle.mtc_command.specs.declared.answer.Said.{Said}
use Rattle.mtc_command.specs.declared.answer.Said.TheVariants.{Done, Against, Collided}
use Rattle.mtc_command.specs.declared.answer.Stopped.TheVariants.{BadWords, BadForm}
use Rattle.mtc_command.specs.declared.answer.Stopped.TheVariants.{NotAllowed}
use Rattle.mtc_command.specs.declared.answer.Stopped.TheVariants.{Missing, Beyond}
use Rattle.mtc_command.specs.Works.{ModelsNew}
use Rattle.mtc_command.proofs.Served.{each_so, each_is}
use Rattle.mtc_authority.specs.StoredTiles.{MakesTilesWhole}
use Rattle.mtc_tiled.specs.Headers.{SparesTiles}
use Rattle.mtc_mirror_steps.specs.SecondStands.{SecondStands}
use Rattle.mtc_io.proofs.Streams.{prefix_whole}
use Rattle.mtc_lines.specs.Outputs.{BrokeItsText, Streams}
use Rattle.mtc_top.specs.Concluded.{Wrote, Lost, Concludes, Prints, PrintsPrefix}
use Rattle.mtc_top.specs.Concluded.{SaysEnding, SaysWritten}
use Rattle.mtc_top.specs.Cited.{spoken_outcome}
use Rattle.mtc_top.specs.Facts.{Facts, facts}
use Rattle.mtc_top.specs.Run.{Answered, CutOff, HasRun, WasCut}
use Rattle.mtc_top.proofs.Planned.{spoken_planned}
use Rattle.mtc_top.proofs.Said.{breaks_at, says_nothing}

-- a reply's status is none of those without a reply
pub record IsReply (status : ℕ) : Type 0 where
  pub not5 : status ≡ 5 → ⊥
  pub not6 : status ≡ 6 → ⊥
  pub not8 : status ≡ 8 → ⊥
  pub known : status ≤ 10

is_reply : (n : ℕ) → n ≤ 4 ⊎ ((n ≡ 7) ⊎ ((n ≡ 9) ⊎ (n ≡ 10))) → IsReply n
is_reply n of = record {
  not5 = λ is. omega (arith, is, of);
  not6 = λ is. omega (arith, is, of);
  not8 = λ is. omega (arith, is, of);
  known = omega (arith, of);
}

pub reply_code : (reply : Reply) → IsReply (status_of reply)
reply_code (said Done text) = is_reply 0 (inl (omega arith))
reply_code (said Against text) = is_reply 3 (inl (omega arith))
reply_code (said Collided text) = is_reply 10 (inr (inr (inr refl)))
reply_code (refused BadWords file reason) = is_reply 1 (inl (omega arith))
reply_code (refused BadForm file reason) = is_reply 2 (inl (omega arith))
reply_code (refused NotAllowed file reason) = is_reply 4 (inl (omega arith))
reply_code (refused Missing file reason) = is_reply 7 (inr (inl refl))
reply_code (refused Beyond file reason) = is_reply 9 (inr (inr (inl refl)))

-- a reply that says something doesn't come early, and not to arguments that are no command
said_late : (kind : Said) (text : List ℕ) → (status_of (said kind text) ≡ 1 → ⊥)
    × (IsEarly (status_of (said kind text)) → ⊥)
said_late Done text = (λ is. omega (arith, is), λ is. omega (arith, is))
said_late other text = (λ is. omega (arith, is), λ is. omega (arith, is))

text_late : (reply : Reply) → 0 < length (out_of reply) → (status_of reply ≡ 1 → ⊥)
    × (IsEarly (status_of reply) → ⊥)
text_late (said kind text) some = said_late kind text
text_late (refused why file reason) some = let none : 0 < 0 = some in absurd (omega (arith, none))

-- ---- what goes out of a reply

module _ {O E : Type 0} (outs : Sinks O) (errs : Sinks E) (command : List ℕ) (out out' : O)
    (err err' : E) (reply : Reply) (status : ℕ)
    (ends : Wrote outs errs command out out' err err' reply status
    ⊎ Lost outs errs command out out' err err' (out_of reply) status) where
  -- a prefix of its text
  pub prefix_of : PrintsPrefix outs out out' (out_of reply)
  prefix_of = elim ends [
    | inl wrote ↦ prefix_whole _ _ _ wrote.text
    | inr lost ↦ lost.prefix
  ]

  -- all of it, and the line; or standard output failed
  pub wrote_of : status ≢ 6 → Wrote outs errs command out out' err err' reply status
  wrote_of not6 = elim ends [
    | inl wrote ↦ wrote
    | inr lost ↦ absurd (not6 lost.code)
  ]

  pub lost_of : status ≡ 6 → Lost outs errs command out out' err err' (out_of reply) status
  lost_of six = elim ends [
    | inl wrote ↦ absurd ((reply_code reply).not6 (sym wrote.code ∙ six))
    | inr lost ↦ lost
  ]

  pub not5_of : status ≢ 5
  not5_of five = elim ends [
    | inl wrote ↦ (reply_code reply).not5 (sym wrote.code ∙ five)
    | inr lost ↦ omega (arith, lost.code, five)
  ]

  pub not8_of : status ≢ 8
  not8_of eight = elim ends [
    | inl wrote ↦ (reply_code reply).not8 (sym wrote.code ∙ eight)
    | inr lost ↦ omega (arith, lost.code, eight)
  ]

-- ---- the endings

module _ {R S D O E : Type 0} (h : List ℕ → List ℕ) (rooms : Rooms R S D) (disks : Disks D)
    (outs : Sinks O) (errs : Sinks E) (words : List (List ℕ))
    (old new : R) (out out' : O) (err err' : E) where
  abbrev Run : ℕ → Type 0
  Run = HasRun h rooms disks outs errs words old new out out' err err'

  abbrev Answers : ℕ → Type 0
  Answers = Answered h rooms disks outs errs words old new out out' err err'

  abbrev Bad : Type 0
  Bad = IsErr (command_of words)

  abbrev asked : Facts
  asked = facts h (command_of words)

  abbrev want : Outcome
  want = asked.outcome (rooms.file old)

  abbrev js : Journals
  js = done_with asked.journals want.journals

  abbrev files : List (List ℕ)
  files = asked.journals ++ (asked.besides ++ asked.inputs)

  abbrev Ends : Ending → Type 0
  Ends = EndsAs (rooms.is_modelled old) (Rose (rooms.faults old) (rooms.faults new)) Bad files js
      want

  abbrev Left : Ending → Type 0
  Left ending = rooms.is_modelled old → LeavesJournals rooms disks old new js ending

  abbrev New : Ending → Type 0
  New ending = IfSome asked.makes (λ name. ModelsNew rooms disks name old new ending)

  abbrev Whole : Ending → Type 0
  Whole ending = IfSome asked.whole (λ name. MakesTilesWhole h rooms disks old new name ending)

  abbrev Out : Ending → ℕ → Type 0
  Out ending status =
      Concludes outs errs (known_word words) out out' err err' ending (rooms.why new) status

  abbrev Cut : Ending → ℕ → Type 0
  Cut = CutOff h rooms disks outs errs words old new out out' err err'

  abbrev pub Cuts : ℕ → Type 0
  Cuts = WasCut h rooms disks outs errs words old new out out' err err'

  -- the status of an ending without a reply
  abbrev HasCode : Ending → ℕ → Type 0
  HasCode (replied reply) status = Unit {0}
  HasCode (room_failed file) status = status ≡ 5
  HasCode no_memory status = status ≡ 8

  code_of : (ending : Ending) (status : ℕ) → Out ending status ⊎ Cut ending status
      → HasCode ending status
  code_of (replied reply) status gone = tt
  code_of (room_failed file) status gone = elim gone [
    | inl failed ↦ failed.is
    | inr cut ↦ cut.breaks.0
  ]
  code_of no_memory status gone = elim gone [
    | inl out_of_memory ↦ out_of_memory.is
    | inr cut ↦ cut.breaks.0
  ]

  -- what went out of a reply
  reply_gone : (reply : Reply) (status : ℕ)
      → Out (replied reply) status ⊎ Cut (replied reply) status → Out (replied reply) status
  reply_gone reply status gone = elim gone [
    | inl gone ↦ gone
    | inr cut ↦ absurd cut.breaks
  ]

  -- the file system failed
  pub record HasFailed (status : ℕ) : Type 0 where
    pub code : status ≡ 5
    pub cause : Rose (rooms.faults old) (rooms.faults new)
    pub text : Prints outs out out' []
    pub made : rooms.is_modelled old → LeavesEach rooms disks old new js MayHaveMade

  -- memory was refused
  pub record RanOutOfMemory (status : ℕ) : Type 0 where
    pub code : status ≡ 8
    pub text : Prints outs out out' []
    pub made : rooms.is_modelled old → LeavesEach rooms disks old new js HasKept

  -- a file failed or memory was refused while the text went out
  pub record WasCutOff (status : ℕ) : Type 0 where
    pub cut : Cuts status
    pub cause : Rose (rooms.faults old) (rooms.faults new) ⊎ (status ≡ 8)

  -- how a run ended
  abbrev pub HasEnded : ℕ → Type 0
  HasEnded status =
      Answers status ⊎ (HasFailed status ⊎ (RanOutOfMemory status ⊎ WasCutOff status))

  ended_by : (ending : Ending) (status : ℕ) → Ends ending
      → Out ending status ⊎ Cut ending status → Left ending → New ending → HasEnded status
  ended_by (replied reply) status ends gone left began = inl (record {
    reply = reply;
    is = λ where_. elim where_ [
      | inl is_modelled ↦ ends.reply is_modelled
      | inr bad ↦ (ends.words bad).0
    ];
    made = λ is_modelled. (left is_modelled).left;
    began = began;
    concludes = reply_gone reply status gone;
  })
  ended_by (room_failed file) status ends gone left began = inr (elim gone [
    | inl failed ↦ inl (record {
      code = failed.is;
      cause = ends.fault.0;
      text = failed.nothing;
      made = λ is_modelled. (left is_modelled).left;
    })
    | inr cut ↦ inr (inr (record { cut = (room_failed file, cut); cause = inl ends.fault.0 }))
  ])
  ended_by no_memory status ends gone left began = inr (inr (elim gone [
    | inl out_of_memory ↦ inl (record {
      code = out_of_memory.is;
      text = out_of_memory.nothing;
      made = λ is_modelled. (left is_modelled).left;
    })
    | inr cut ↦ inr (record { cut = (no_memory, cut); cause = inr cut.breaks.0 })
  ]))

  only_by : (ending : Ending) (status : ℕ) → Ends ending
      → Out ending status ⊎ Cut ending status → status ≡ 1 → Bad
  only_by (replied reply) status ends gone one = elim (reply_gone reply status gone) [
    | inl wrote ↦ ends.not_words (sym wrote.code ∙ one)
    | inr lost ↦ absurd (omega (arith, lost.code, one))
  ]
  only_by (room_failed file) status ends gone one =
      let five : status ≡ 5 = code_of (room_failed file) status gone in
      absurd (omega (arith, five, one))
  only_by no_memory status ends gone one =
      let eight : status ≡ 8 = code_of no_memory status gone in absurd (omega (arith, eight, one))

  first_by : (ending : Ending) (status : ℕ) → Ends ending
      → Out ending status ⊎ Cut ending status → Bad → status ≢ 8 → status ≡ 1
  first_by (replied reply) status ends gone bad not8 = elim (reply_gone reply status gone) [
    | inl wrote ↦ wrote.code ∙ (ends.words bad).1
    | inr lost ↦ absurd ((text_late reply lost.some).0 (ends.words bad).1)
  ]
  first_by (room_failed file) status ends gone bad not8 = absurd (ends.words bad)
  first_by no_memory status ends gone bad not8 = absurd (not8 (code_of no_memory status gone))

  abbrev Early : ℕ → Type 0
  Early status = OfEach (λ name did. did ≡ untouched → IsEarly status) js

  early_by : (ending : Ending) (status : ℕ) → Ends ending
      → Out ending status ⊎ Cut ending status → rooms.is_modelled old → Early status
  early_by (replied reply) status ends gone is_modelled = elim (reply_gone reply status gone) [
    | inl wrote ↦ subst Early (sym wrote.code) (ends.early is_modelled)
    | inr lost ↦ each_so (λ name did. did ≡ untouched → IsEarly (status_of reply))
        (λ name did. did ≡ untouched → IsEarly status)
        (λ name did early is. absurd ((text_late reply lost.some).1 (early is))) js
        (ends.early is_modelled)
  ]
  early_by (room_failed file) status ends gone is_modelled =
      each_is (λ name did. did ≡ untouched → IsEarly status)
      (λ name did is. inr (inr (inl (code_of (room_failed file) status gone)))) js
  early_by no_memory status ends gone is_modelled =
      each_is (λ name did. did ≡ untouched → IsEarly status)
      (λ name did is. inr (inr (inr (inr (inl (code_of no_memory status gone)))))) js

  -- a run that was cut off has status 5 or 8, and a prefix of its text went out
  cut_code : (ending : Ending) (status : ℕ) → Cut ending status → status ≢ 5 → status ≢ 8 → ⊥
  cut_code (replied reply) status cut not5 not8 = cut.breaks
  cut_code (room_failed file) status cut not5 not8 = not5 cut.breaks.0
  cut_code no_memory status cut not5 not8 = not8 cut.breaks.0

  pub cut_breaks : (ending : Ending) (status : ℕ) → Cut ending status → breaks_off status ≡ true
  cut_breaks (replied reply) status cut = absurd cut.breaks
  cut_breaks (room_failed file) status cut =
      or_left (status == 5) (status == 8) (eq-eqb status 5 cut.breaks.0)
  cut_breaks no_memory status cut =
      or_right (status == 5) (status == 8) (eq-eqb status 8 cut.breaks.0)

  pub cut_prefix : (ending : Ending) (status : ℕ) (cut : Cut ending status)
      → PrintsPrefix outs out out' cut.text
  cut_prefix (replied reply) status cut = absurd cut.breaks
  cut_prefix (room_failed file) status cut = cut.breaks.1.0
  cut_prefix no_memory status cut = cut.breaks.1.0

  module _ (status : ℕ) (run : Run status) where
    pub ended : HasEnded status
    ended = ended_by run.ending status run.ends run.concludes run.made run.began

    pub only_words : status ≡ 1 → Bad
    only_words = only_by run.ending status run.ends run.concludes

    pub first_words : Bad → status ≢ 8 → status ≡ 1
    first_words = first_by run.ending status run.ends run.concludes

    pub all_early : rooms.is_modelled old → Early status
    all_early = early_by run.ending status run.ends run.concludes

    -- if the file system didn't fail and memory wasn't refused, it answered
    pub answered : status ≢ 5 → status ≢ 8 → Answers status
    answered not5 not8 = elim ended [
      | inl a ↦ a
      | inr other ↦ elim other [
        | inl failed ↦ absurd (not5 failed.code)
        | inr others ↦ elim others [
          | inl out_of_memory ↦ absurd (not8 out_of_memory.code)
          | inr short ↦ absurd (cut_code short.cut.0 status short.cut.1 not5 not8)
        ]
      ]
    ]

  -- ---- what the program does

  -- the outcome that the contracts of the commands cite
  abbrev cited : Outcome
  cited = spoken_outcome h (command_of words) (rooms.file old)

  same : cited ≡ want
  same = spoken_planned h (command_of words) (rooms.file old)

  -- what was done, and how it ended
  abbrev pub DoneSo : Ending → Type 0
  DoneSo ending = HasDone rooms disks Bad files asked.journals asked.besides cited old new ending
      × (New ending × Whole ending)

  done_as : (ending : Ending) → DoneSo ending
      → HasDone rooms disks Bad files asked.journals asked.besides want old new ending
  done_as ending done = subst (λ (o : Outcome). HasDone rooms disks Bad files asked.journals
      asked.besides o old new ending) same done.0

  -- a command that was done, as their contracts say, and whose ending went out, is a run
  pub planned_run : (ending : Ending) (status : ℕ) → DoneSo ending
      → KeepsValid rooms disks asked.Valid asked.journals cited old new
      → (rooms.is_modelled old
      → LeavesEach rooms disks old new (done_with asked.only_reads []) HasKept)
      → OfEach (λ name did. SparesTiles rooms old new name)
      (done_with asked.journals cited.journals)
      → (rooms.is_modelled old
      → SecondStands rooms disks old new (done_with asked.journals cited.journals))
      → StoresBeside asked.goes asked.Valid rooms disks old new asked.journals asked.besides
      cited → Out ending status ⊎ Cut ending status → Run status
  planned_run ending status done valid only_read spares second stores gone =
      let did = done_as ending done in
      record {
        ending = ending;
        ends = did.ends;
        concludes = gone;
        back = did.back;
        made = did.made;
        began = done.1.0;
        whole = done.1.1;
        only_read = only_read;
        spares = subst (λ (o : Outcome). OfEach (λ name did. SparesTiles rooms old new name)
            (done_with asked.journals o.journals)) same spares;
        second = subst (λ (o : Outcome). rooms.is_modelled old
            → SecondStands rooms disks old new (done_with asked.journals o.journals)) same second;
        valid = subst (λ (o : Outcome).
            KeepsValid rooms disks asked.Valid asked.journals o old new) same valid;
        stores = subst (λ (o : Outcome). StoresBeside asked.goes asked.Valid rooms disks old new
            asked.journals asked.besides o) same stores;
      }

  -- ---- a command that has written its text itself

  module _ (status : ℕ) where
    cut_of : (ending : Ending) → asked.streams ≡ true
        → outs.faults out' ≡ outs.faults out → BrokeItsText outs out out' DoneSo ending
        → SaysEnding errs (known_word words) err err' ending (rooms.why new) status
        → Cut ending status
    cut_of ending may fine broke says =
        let did = done_as (replied (said Done broke.text)) broke.ends in record {
          streams = may;
          text = broke.text;
          is = did.ends.reply;
          fine = fine;
          breaks = breaks_at outs errs (known_word words) out out' err err' (rooms.why new)
              status ending broke.text broke.went says;
          made = λ is_modelled. (did.made is_modelled).left;
        }

    pub streamed_run : (result : Result (Result (Unit {0}) Failed) Stop) → asked.streams ≡ true
        → Streams outs out out' DoneSo result
        → SaysWritten errs (known_word words) err err' result (rooms.why new) status
        → (ending : Ending) × (DoneSo ending × (Out ending status ⊎ Cut ending status))
    streamed_run (Ok (Ok done)) may is says = (
      replied (said Done is.text),
      (is.ends, inl (inl (record { code = says.0; text = is.written; line = says.1 }))),
    )
    streamed_run (Ok (Err failed)) may is says = (
      replied (said Done is.text),
      (
        is.ends,
        inl (inr (record {
          code = says.0;
          some = is.some;
          cause = is.cause;
          prefix = is.prefix;
          line = says.1;
        })),
      ),
    )
    streamed_run (Err stop) may is says = (
      stop_ending stop,
      (
        is.ends,
        elim is.went [
          | inl nothing ↦ inl (says_nothing outs errs (known_word words) out out' err err'
              (rooms.why new) status stop is.fine nothing says)
          | inr broke ↦ inr (cut_of (stop_ending stop) may is.fine broke says)
        ],
      ),
    )
