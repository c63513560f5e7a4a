-- What goes out of a command that is given a secret.
use Rattle.std.proofs.Common.{◌≡◌, ◌⊎◌, inl, inr, ℕ, Bool, true, false, List, [], ◌∷◌, length}
use Rattle.std.proofs.Common.{Option, None, Some}
use Rattle.std.proofs.Common.{Result, Ok, Err, refl, sym, subst, true≢false, option_map}
use Rattle.byte_formats.specs.Offsets.{IsBytes}
use Rattle.byte_formats.specs.Types.{HashFunction}
use Rattle.disk_core.specs.declared.disk.Disk.{Ghosts as Disks}
use Rattle.journal_core.proofs.Standing.{found_stands}
use Rattle.mtc_io.specs.declared.sink.Sink.{Ghosts as Sinks}
use Rattle.mtc_room.specs.declared.room.Room.{Ghosts as Rooms}
use Rattle.mtc_words.specs.Commands.{CommandValue, advance, child, cosign, export, init_cosigner}
use Rattle.mtc_words.specs.Commands.{keygen, mirror_advance, mirror_cosign}
use Rattle.mtc_words.specs.Words.{command_of}
use Rattle.mtc_words.specs.declared.error.WordError.{WordError}
use Rattle.cosigner_core.specs.Children.{next_child}
use Rattle.cosigner_core.specs.Exports.{export_text}
use Rattle.cosigner_core.specs.Folds.{cosigner_fold}
use Rattle.mtc_command.specs.Answers.{Reply}
use Rattle.mtc_command.specs.Made.{appended, reads}
use Rattle.mtc_command.specs.Wanted.{Meets}
use Rattle.mtc_command.specs.declared.answer.Stopped.TheVariants.{BadWords}
use Rattle.mtc_command.proofs.Made.{OnlyNow, ReadsCrashState}
use Rattle.mtc_cosigner.specs.CosignerOutcomes.{advanced_text, child_line}
use Rattle.mtc_cosigner.specs.KeygenOutcome.{lms_type, ots_type, public_line}
use Rattle.mtc_authority.specs.Works.{IsLog}
use Rattle.mtc_mirror.specs.Works.{IsMirror}
use Rattle.command_plans.specs.Plans.{Journal, makes, opens}
use Rattle.mtc_plans.specs.Commands.{plan_of, planned_outcome}
use Rattle.mtc_plans.specs.Heard.{AdvancesSo, BeginsSo, ExportsSo, HasChildSo, KeysSo}
use Rattle.mtc_plans.specs.Heard.{MirrorAdvancesSo, OfSaid}
use Rattle.mtc_plans.specs.PartyKinds.{cosigner, log, mirror, rebuilt_log, party_kinds}
use Rattle.mtc_plans.specs.Words.{streams}
use Rattle.mtc_plans.proofs.Heard.{advanced_so, begun_so, exported_so, has_child_so, keyed_so}
use Rattle.mtc_plans.proofs.HeardOfBoth.{mirror_advanced_so}
use Rattle.mtc_top.specs.Facts.{facts}
use Rattle.mtc_laws.specs.PrintLaws.{OnlyCosignSigns, PrintsKey, Says}
use Rattle.mtc_words.specs.Reasons.{word_fault_text}
use Rattle.mtc_laws.proofs.Printed.{MirrorsAreSound, cosign_printed, did_so, heard_so}
use Rattle.mtc_laws.proofs.Printed.{mirror_cosign_printed}
use Rattle.mtc_laws.proofs.HeardRuns.{file_bytes, heard_run, held_rules, not_refused, printed_so}
use Rattle.mtc_laws.proofs.HeardRuns.{streamed_so}
use Rattle.mtc_laws.proofs.Opened.{EachKeeps, SpokenKeeps}
use Rattle.mtc_laws.proofs.Streams.{plain_command}
use Rattle.mtc_top.specs.Executions.{program, Run}
use Rattle.mtc_laws.proofs.Aliases.{IsRun, HasHeld, IsHeard}
use Rattle.mtc_laws.proofs.Aliases.{ModelsFiles}

-- the records are those of a log or of a mirror, which have no key
abbrev HasNoKey : HashFunction → List (List ℕ) → Type 0
HasNoKey h list = IsLog h list ⊎ IsMirror h list

-- each of these journals is that of one
abbrev have_no_key : (h : HashFunction) → List (Journal (party_kinds h)) → Bool
have_no_key h [] = true
have_no_key h (opens log beside name ∷ rest) = have_no_key h rest
have_no_key h (opens rebuilt_log beside name ∷ rest) = have_no_key h rest
have_no_key h (opens cosigner beside name ∷ rest) = false
have_no_key h (opens mirror beside name ∷ rest) = have_no_key h rest
have_no_key h (makes log name ∷ rest) = have_no_key h rest
have_no_key h (makes rebuilt_log name ∷ rest) = have_no_key h rest
have_no_key h (makes cosigner name ∷ rest) = false
have_no_key h (makes mirror name ∷ rest) = have_no_key h rest

each_keyless : (h : HashFunction) (journals : List (Journal (party_kinds h)))
    → have_no_key h journals ≡ true → EachKeeps (party_kinds h) (HasNoKey h) journals
each_keyless h [] none = tt
each_keyless h (opens log beside name ∷ rest) none = (λ list is. inl is, each_keyless h rest none)
each_keyless h (opens rebuilt_log beside name ∷ rest) none =
    (λ list is. inl is, each_keyless h rest none)
each_keyless h (opens cosigner beside name ∷ rest) none = absurd (true≢false (sym none))
each_keyless h (opens mirror beside name ∷ rest) none =
    (λ list is. inr is, each_keyless h rest none)
each_keyless h (makes log name ∷ rest) none = (λ list is. inl is, each_keyless h rest none)
each_keyless h (makes rebuilt_log name ∷ rest) none =
    (λ list is. inl is, each_keyless h rest none)
each_keyless h (makes cosigner name ∷ rest) none = absurd (true≢false (sym none))
each_keyless h (makes mirror name ∷ rest) none = (λ list is. inr is, each_keyless h rest none)

module _ {R S D O E : Type 0} (h : HashFunction) (rooms : Rooms R S D) (disks : Disks D)
    (outs : Sinks O) (errs : Sinks E) (crash_state : ReadsCrashState disks) (only : OnlyNow disks)
    (contents : ModelsFiles rooms disks)
    (bytes : (d : D) (b : List ℕ) → disks.contents d ≡ Some b → IsBytes b) where
  module _ (old : R) (run : Run R O E) (is_modelled : rooms.is_modelled old)
      (is_run : IsRun h rooms disks outs errs old run) (heard : IsHeard outs run) where
    abbrev Speaks : CommandValue → Type 0
    Speaks command = command_of run.words ≡ Ok command

    abbrev SaysSo : CommandValue → Type 0
    SaysSo command = Says h (program h rooms disks outs errs) command old run

    abbrev answer : Reply
    answer = (heard_run h rooms disks outs errs old run is_run heard).reply

    by_text : (command : CommandValue) → Speaks command → (P : Reply → Type 0)
        → OfSaid (planned_outcome h command (rooms.file old)) P → P answer
    by_text command spoken P each =
        heard_so h rooms disks outs errs old run command spoken is_modelled is_run heard P each

    -- it doesn't write while it reads
    abbrev IsPlain : Type 0
    IsPlain = (facts h (command_of run.words)).streams ≡ false

    plain : (command : CommandValue) → Speaks command → streams command ≡ false → IsPlain
    plain command spoken is = plain_command h command spoken is

    keys_printed : (top : ℕ) (low : Option ℕ) (width : ℕ) (file : List ℕ) → IsPlain
        → KeysSo (rooms.file old) top low width file answer
        → PrintsKey h (program h rooms disks outs errs) top low width file old run
    keys_printed top low width file is_plain s = (
      s.secret,
      (
        record { there = s.has_secret.there; few = s.has_secret.few },
        printed_so h rooms disks outs errs old run is_run heard is_plain
            (public_line (lms_type top) (option_map lms_type low) (ots_type width) s.secret)
            s.reply_is,
      ),
    )

    advanced : (name file : List ℕ) → Speaks (advance name file) → SaysSo (advance name file)
    advanced name file spoken =
        let s = by_text (advance name file) spoken (AdvancesSo h (rooms.file old) name file)
        (advanced_so h (rooms.file old) name file) in (
          s.bytes,
          (
            s.request,
            (
              record { there = s.has_bytes.there; few = s.has_bytes.few },
              s.asked,
              printed_so h rooms disks outs errs old run is_run heard
                  (plain (advance name file) spoken refl) (advanced_text s.request.size)
                  s.reply_is,
            ),
          ),
        )

    next_tree : (name : List ℕ) → Speaks (child name) → SaysSo (child name)
    next_tree name spoken =
        let s = by_text (child name) spoken (HasChildSo h (rooms.file old) name)
        (has_child_so h (rooms.file old) name) in
        let list = s.found.records in
        let are = file_bytes disks (rooms.file old name) (rooms.device old name) s.held bytes
        (contents.0 old name is_modelled) s.there in (
          list,
          (
            s.found.state,
            (
              (found_stands (cosigner_fold h) s.held s.found are s.is_cosigner).1,
              did_so h rooms disks outs errs old run (child name) spoken name
                  (appended list (next_child s.found.state)) refl s.did,
              printed_so h rooms disks outs errs old run is_run heard
                  (plain (child name) spoken refl) (child_line s.found.state.key.children)
                  s.reply_is,
            ),
          ),
        )

    pub exported : (name : List ℕ) → Speaks (export name) → SaysSo (export name)
    exported name spoken =
        let s = by_text (export name) spoken (ExportsSo h (rooms.file old) name)
        (exported_so h (rooms.file old) name) in
        let list = s.found.records in
        let are = file_bytes disks (rooms.file old name) (rooms.device old name) s.held bytes
        (contents.0 old name is_modelled) s.there in (
          list,
          (
            s.found.state,
            (
              (found_stands (cosigner_fold h) s.held s.found are s.is_cosigner).1,
              did_so h rooms disks outs errs old run (export name) spoken name (reads list) refl
                  s.did,
              streamed_so h rooms disks outs errs old run is_run heard
                  (export_text s.found.state list)
                  s.reply_is,
            ),
          ),
        )

    mirror_advanced : (name journal : List ℕ) (size : ℕ)
        → Speaks (mirror_advance name journal size) → SaysSo (mirror_advance name journal size)
    mirror_advanced name journal size spoken =
        let s = by_text (mirror_advance name journal size) spoken
        (MirrorAdvancesSo h (rooms.file old) name journal size)
        (mirror_advanced_so h (rooms.file old) name journal size) in
        printed_so h rooms disks outs errs old run is_run heard
        (plain (mirror_advance name journal size) spoken refl) (advanced_text size) s.reply_is

    -- the others open logs and mirrors
    keyless : (command : CommandValue) → Speaks command
        → have_no_key h (plan_of h command).journals ≡ true → (name : List ℕ)
        (list : List (List ℕ)) → HasHeld h rooms disks outs errs name old run list
        → HasNoKey h list
    keyless command spoken are name list held =
        held_rules h rooms disks outs errs crash_state only contents bytes name old run (HasNoKey h)
        (subst (λ (r : Result CommandValue WordError). SpokenKeeps h (HasNoKey h) r) (sym spoken)
        (each_keyless h (plan_of h command).journals are)) list is_modelled is_run held

    says_so : ((b : List ℕ) → length (h b) ≡ 32) → MirrorsAreSound h → (command : CommandValue)
        → Speaks command → SaysSo command
    says_so sized sound (cosign name file) spoken =
        (cosign_printed h rooms disks outs errs contents bytes name file old run is_modelled is_run
        spoken heard).signed
    says_so sized sound (mirror_cosign name journal start end) spoken =
        (mirror_cosign_printed h rooms disks outs errs contents bytes sized sound name journal start
        end old run is_modelled is_run spoken heard).signed
    says_so sized sound (mirror_advance name journal size) spoken =
        mirror_advanced name journal size spoken
    says_so sized sound (advance name file) spoken = advanced name file spoken
    says_so sized sound (child name) spoken = next_tree name spoken
    says_so sized sound (export name) spoken = exported name spoken
    says_so sized sound (init_cosigner name id log_id top low width file) spoken =
        keys_printed top low width file
        (plain (init_cosigner name id log_id top low width file) spoken refl)
        (by_text (init_cosigner name id log_id top low width file)
        spoken (BeginsSo h (rooms.file old) name id log_id top low width file)
        (begun_so h (rooms.file old) name id log_id top low width file)).keys
    says_so sized sound (keygen height width file) spoken =
        keys_printed height None width file (plain (keygen height width file) spoken refl)
        (by_text (keygen height width file) spoken
        (KeysSo (rooms.file old) height None width file)
        (keyed_so h (rooms.file old) height width file))
    says_so sized sound other spoken = keyless other spoken refl

    -- arguments that are no command are refused
    has_command : (r : Result CommandValue WordError) → command_of run.words ≡ r
        → (command : CommandValue) × Speaks command
    has_command (Ok command) is = (command, is)
    has_command (Err why) is =
        let run_so = heard_run h rooms disks outs errs old run is_run heard in
        absurd (not_refused h rooms disks outs errs old run is_run heard BadWords None
        (word_fault_text why) (subst (λ (r : Result CommandValue WordError).
        Meets ((facts h r).outcome (rooms.file old)).answer run_so.reply) is
        (run_so.is (inl is_modelled))))

  pub only_cosign : ((b : List ℕ) → length (h b) ≡ 32) → MirrorsAreSound h
      → OnlyCosignSigns h (program h rooms disks outs errs)
  only_cosign sized sound old run is_modelled is_run heard =
      let has = has_command old run is_modelled is_run heard (command_of run.words) refl in
      (has.0, (has.1, says_so old run is_modelled is_run heard sized sound has.0 has.1))
