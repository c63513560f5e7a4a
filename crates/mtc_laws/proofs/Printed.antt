-- What goes out of a run by a command, by what its text says.
use Rattle.std.proofs.Common.{◌≡◌, inl, ℕ, false, List, [], ◌∷◌, length, Result, Ok, refl, sym}
use Rattle.std.proofs.Common.{Some, Bool, if◌then◌else◌, subst, ap, ◌∙◌, inr, None, arith, ◌<◌}
use Rattle.byte_formats.specs.Offsets.{IsBytes}
use Rattle.byte_formats.specs.Types.{HashFunction}
use Rattle.disk_core.specs.declared.disk.Disk.{Ghosts as Disks}
use Rattle.journal_core.specs.Format.{end_offset, Represents}
use Rattle.journal_core.proofs.Standing.{found_stands}
use Rattle.file_events.specs.Worlds.{done_to}
use Rattle.mtc_io.specs.declared.sink.Sink.{Ghosts as Sinks}
use Rattle.mtc_room.specs.declared.room.Room.{Ghosts as Rooms}
use Rattle.mtc_words.specs.Commands.{CommandValue, cosign, issue, switch, mirror_cosign}
use Rattle.mtc_words.specs.Words.{command_of}
use Rattle.mtc_words.specs.declared.error.WordError.{WordError}
use Rattle.authority_core.specs.Issues.{issued_entry, issued_record}
use Rattle.cosigner_core.specs.Folds.{cosigner_fold, CosignerState, cosigner_of, key_count}
use Rattle.cosigner_core.specs.Records.{sign_record, step_in}
use Rattle.cosigner_core.proofs.Forms.{subtree_only}
use Rattle.cosigner_core.proofs.Keys.{few_keys}
use Rattle.issuance_log.specs.Folds.{log_fold, view_in}
use Rattle.issuance_log.specs.Records.{switch_record}
use Rattle.mtc_command.specs.Answers.{Reply, refused, said}
use Rattle.mtc_command.specs.Made.{Journaled, appended, reads}
use Rattle.mtc_command.specs.Served.{Journals, done_with}
use Rattle.mtc_command.specs.Steps.{Outcome}
use Rattle.mtc_command.specs.Wanted.{Meets}
use Rattle.mtc_command.specs.declared.answer.Said.{Said}
use Rattle.mtc_cosigner.specs.CosignerOutcomes.{cosigned_text}
use Rattle.mtc_authority.specs.IssueOutcome.{issued_text}
use Rattle.mtc_authority.specs.SwitchOutcome.{switched_line}
use Rattle.mtc_plans.specs.Commands.{planned_outcome}
use Rattle.mtc_plans.specs.Heard.{CosignsSo, IssuesSo, OfSaid, SwitchesSo, MirrorCosignsSo}
use Rattle.mtc_plans.proofs.Heard.{cosigned_so, issued_so, switched_so}
use Rattle.party_history.proofs.Cosigners.{sign_read}
use Rattle.party_history.proofs.Entries.{item_read}
use Rattle.mtc_top.specs.Facts.{facts, facts_of}
use Rattle.mtc_laws.specs.PrintLaws.{IndicesArePrinted, SignaturesArePrinted, SwitchesArePrinted}
use Rattle.mtc_laws.proofs.HeardRuns.{file_bytes, heard_run, not_refused, printed_so}
use Rattle.mtc_laws.proofs.Streams.{plain_command}
use Rattle.mtc_room.proofs.Places.{one_place_of}
use Rattle.mtc_top.specs.Executions.{program, Run}
use Rattle.mtc_laws.proofs.Aliases.{IsRun, DidWith, IsHeard}
use Rattle.mtc_laws.proofs.Aliases.{ModelsFiles}
use Rattle.std.proofs.lemmas.List.{length-map}
use Rattle.cosigner_core.specs.Refusals.{cosign_refused, journal_refusal, subtree_refusal}
use Rattle.cosigner_core.specs.Requests.{SubtreeParts}
use Rattle.cosigner_core.specs.declared.step.Step.TheVariants.{Sign}
use Rattle.cosigner_core.proofs.Allowed.{key_left, none_first}
use Rattle.cosigner_core.proofs.Counts.{counts_up}
use Rattle.cosigner_core.proofs.Encoded.{step_again}
use Rattle.mirror_core.specs.Folds.{MirrorState, mirror_fold, mirror_of}
use Rattle.mirror_core.specs.Rules.{IsSoundMirror}
use Rattle.mirror_cosigner.specs.Refusals.{cosign_refusal_at, mirror_cosign_refusal}
use Rattle.mirror_cosigner.specs.Refusals.{signing_refusal}
use Rattle.mirror_cosigner.specs.Requests.{own_root, subtree_by_mirror}
use Rattle.mirror_cosigner.proofs.Advanced.{none_second}
use Rattle.mirror_cosigner.proofs.Refusing.{signs_own}
use Rattle.mirror_cosigner.proofs.Growing.{next_short, sign_fits}
use Rattle.mtc_plans.proofs.HeardOfBoth.{mirror_cosigned_so}
use Rattle.mtc_laws.specs.PrintLaws.{HasCosigned, Signs}

module _ {R S D O E : Type 0} (h : HashFunction) (rooms : Rooms R S D) (disks : Disks D)
    (outs : Sinks O) (errs : Sinks E) (old : R) (run : Run R O E) (command : CommandValue)
    (spoken : command_of run.words ≡ Ok command) where
  abbrev planned : Outcome
  planned = planned_outcome h command (rooms.file old)

  -- the run did with its first journal what the outcome says
  pub first_did : (name : List ℕ) (names : List (List ℕ)) (did : Journaled)
      (dids : List Journaled) → (facts_of h command).journals ≡ name ∷ names
      → planned.journals ≡ did ∷ dids → DidWith h rooms disks outs errs old run name did
  first_did name names did dids named is =
      let are = ap (λ (r : Result CommandValue WordError).
      done_with (facts h r).journals ((facts h r).outcome (rooms.file old)).journals) spoken
      ∙ (ap (λ (all : List (List ℕ)). done_with all planned.journals) named
      ∙ ap (λ (all : List Journaled). done_with (name ∷ names) all) is) in
      subst (λ (js : Journals). done_to rooms.leads_to js name ≡ did) (sym are)
      (ap (λ (b : Bool). if b then did else done_to rooms.leads_to (done_with names dids) name)
      (one_place_of rooms.leads_to name name refl))

  -- and with its one journal
  pub did_so : (name : List ℕ) (did : Journaled) → (facts_of h command).journals ≡ name ∷ []
      → planned.journals ≡ did ∷ [] → DidWith h rooms disks outs errs old run name did
  did_so name did named is = first_did name [] did [] named is

  module _ (is_modelled : rooms.is_modelled old)
      (is_run : IsRun h rooms disks outs errs old run) (heard : IsHeard outs run) where
    abbrev reply : Reply
    reply = (heard_run h rooms disks outs errs old run is_run heard).reply

    -- it has said something
    has_said : (r : Reply) → reply ≡ r
        → (status : Said) × ((text : List ℕ) × (reply ≡ said status text))
    has_said (said status text) is = (status, (text, is))
    has_said (refused why file reason) is =
        absurd (not_refused h rooms disks outs errs old run is_run heard why file reason is)

    -- what is so of each text that the command may say is so of the run's
    pub heard_so : (P : Reply → Type 0) → OfSaid planned P → P reply
    heard_so P each =
        let s = has_said reply refl in
        let meets = subst (λ (r : Result CommandValue WordError).
        Meets ((facts h r).outcome (rooms.file old)).answer reply) spoken
        ((heard_run h rooms disks outs errs old run is_run heard).is (inl is_modelled)) in
        subst P (sym s.1.1)
        (each s.0 s.1.0 (subst (λ (r : Reply). Meets planned.answer r) s.1.1 meets))

-- ---- signatures

-- a mirror that records make is sound
abbrev pub MirrorsAreSound : HashFunction → Type 0
MirrorsAreSound h =
    (list : List (List ℕ)) (s : MirrorState) → mirror_of h list ≡ Ok s → IsSoundMirror h s

-- the next one-time key is one of the cosigner's
next_below : (h : HashFunction) (s : CosignerState) (broken : Bool) (end : ℕ) (r : SubtreeParts)
    → cosign_refused h s broken end r ≡ None → s.key.next < key_count s
next_below h s broken end r is =
    key_left h s r (none_first (subtree_refusal h s r)
    (journal_refusal broken end (sign_record s.key.next r.start r.end r.hash r.proof)) is)

-- so it is of a mirror's request
next_asked : (h : HashFunction) (m : MirrorState) (s : CosignerState) (broken : Bool)
    (end from to : ℕ) → mirror_cosign_refusal h m s broken end from to ≡ None
    → s.key.next < key_count s
unfolding cosign_refusal_at
next_asked h m s broken end from to is =
    let r = subtree_by_mirror h m s.held from to in
    let first = signing_refusal (length m.items) (own_root h m s.held) s.held from to in
    next_below h s broken end r
    (none_second first (cosign_refused h s broken end r) (none_first first _ is) is)

-- A run has cosigned, over the bytes of the journal, and the cosigner had a key left.
pub record CosignsOver {R S D O E : Type 0} (h : HashFunction) (rooms : Rooms R S D)
    (disks : Disks D) (outs : Sinks O) (errs : Sinks E) (name : List ℕ) (old : R)
    (run : Run R O E) : Type 0 where
  pub signed : HasCosigned h (program h rooms disks outs errs) name old run
  pub held : List ℕ
  pub there : rooms.file old name ≡ Some held
  pub stands : Represents held signed.list
  pub below : signed.state.key.next < key_count signed.state

module _ {R S D O E : Type 0} (h : HashFunction) (rooms : Rooms R S D) (disks : Disks D)
    (outs : Sinks O) (errs : Sinks E)
    (contents : ModelsFiles rooms disks)
    (bytes : (d : D) (b : List ℕ) → disks.contents d ≡ Some b → IsBytes b) where
  pub cosign_printed : (name file : List ℕ) (old : R) (run : Run R O E) → rooms.is_modelled old
      → IsRun h rooms disks outs errs old run → command_of run.words ≡ Ok (cosign name file)
      → IsHeard outs run → CosignsOver h rooms disks outs errs name old run
  cosign_printed name file old run is_modelled is_run spoken heard =
      let command = cosign name file in
      let s = heard_so h rooms disks outs errs old run command spoken is_modelled is_run heard
      (CosignsSo h (rooms.file old) name file) (cosigned_so h (rooms.file old) name file) in
      let r = s.request in
      let state = s.found.state in
      let list = s.found.records in
      let are = file_bytes disks (rooms.file old name) (rooms.device old name) s.held bytes
      (contents.0 old name is_modelled) s.there in
      let stands = found_stands (cosigner_fold h) s.held s.found are s.is_cosigner in
      let asked = file_bytes disks (rooms.file old file) (rooms.device old file) s.bytes bytes
      (contents.0 old file is_modelled) s.has_bytes.there in
      let body = sign_record state.key.next r.start r.end r.hash r.proof in
      let signs = sign_read h state r false (end_offset list) (few_keys h list state stands.1)
      (subtree_only s.bytes r asked s.asked).1 s.fits in
      record {
        signed = record {
          list = list;
          state = state;
          cosigner_is = stands.1;
          request = r;
          asked = inl (
            file,
            (
              s.bytes,
              (spoken, record { there = s.has_bytes.there; few = s.has_bytes.few }, s.asked),
            ),
          );
          body = body;
          did = did_so h rooms disks outs errs old run command spoken name (appended list body) refl
              s.did;
          signs = signs;
          printed = printed_so h rooms disks outs errs old run is_run heard
              (plain_command h command spoken refl) (cosigned_text state r)
              s.reply_is;
        };
        held = s.held;
        there = s.there;
        stands = stands.0;
        below = next_below h state false (end_offset list) r s.fits;
      }

  module _ (sized : (b : List ℕ) → length (h b) ≡ 32) (sound : MirrorsAreSound h) where
    -- the request of a mirror is one that can be encoded
    mirror_asks : (records list : List (List ℕ)) (s : MirrorState) (signer : CosignerState)
        (start end : ℕ) → mirror_of h records ≡ Ok s → cosigner_of h list ≡ Ok signer
        → mirror_cosign_refusal h s signer false (end_offset list) start end ≡ None
        → let r = subtree_by_mirror h s signer.held start end in
        step_in (sign_record signer.key.next r.start r.end r.hash r.proof)
        ≡ Some (Sign signer.key.next r.start r.end r.hash r.proof)
    mirror_asks records list s signer start end is_mirror is_cosigner fits =
        let r = subtree_by_mirror h s signer.held start end in
        let own = signs_own h s signer false (end_offset list) start end fits in
        let count = length-map s.items (λ item. item.0) in
        let within = own.mine.within in
        let few = (sound records s is_mirror).numbers.few in
        step_again (Sign signer.key.next r.start r.end r.hash r.proof)
        (sign_fits h sized s signer signer.key.next start end (omega (arith, count, within))
        (omega (arith, count, within, few))
        (next_short signer.key (counts_up h list signer is_cosigner).1) own.valid own.within)

    pub mirror_cosign_printed : (name mirror : List ℕ) (start end : ℕ) (old : R) (run : Run R O E)
        → rooms.is_modelled old → IsRun h rooms disks outs errs old run
        → command_of run.words ≡ Ok (mirror_cosign name mirror start end) → IsHeard outs run
        → CosignsOver h rooms disks outs errs name old run
    mirror_cosign_printed name mirror start end old run is_modelled is_run spoken heard =
        let command = mirror_cosign name mirror start end in
        let s = heard_so h rooms disks outs errs old run command spoken is_modelled is_run heard
        (MirrorCosignsSo h (rooms.file old) name mirror start end)
        (mirror_cosigned_so h (rooms.file old) name mirror start end) in
        let both = s.both in
        let state = both.found.state in
        let list = both.found.records in
        let r = subtree_by_mirror h both.mirrored.state state.held start end in
        let are = file_bytes disks (rooms.file old name) (rooms.device old name) both.held bytes
        (contents.0 old name is_modelled) both.there in
        let stands = found_stands (cosigner_fold h) both.held both.found are both.is_cosigner in
        let held = file_bytes disks (rooms.file old mirror) (rooms.device old mirror)
        both.mirror_held bytes (contents.0 old mirror is_modelled) both.mirror_there in
        let mirrored = found_stands (mirror_fold h) both.mirror_held both.mirrored held
        both.is_mirror in
        let body = sign_record state.key.next r.start r.end r.hash r.proof in
        record {
          signed = record {
            list = list;
            state = state;
            cosigner_is = stands.1;
            request = r;
            asked = inr (
              mirror,
              (
                start,
                (
                  end,
                  (
                    both.mirror_held,
                    (both.mirrored, (spoken, both.mirror_there, both.is_mirror, refl)),
                  ),
                ),
              ),
            );
            body = body;
            did = first_did h rooms disks outs errs old run command spoken name (mirror ∷ [])
                (appended list body) (reads both.mirrored.records ∷ []) refl s.did;
            signs = mirror_asks both.mirrored.records list both.mirrored.state state start end
                mirrored.1 stands.1 s.fits;
            printed = printed_so h rooms disks outs errs old run is_run heard
                (plain_command h command spoken refl) (cosigned_text state r) s.reply_is;
          };
          held = both.held;
          there = both.there;
          stands = stands.0;
          below = next_asked h both.mirrored.state state false (end_offset list) start end s.fits;
        }

    -- each run by a command that signs
    pub signing_printed : (name : List ℕ) (command : CommandValue) → Signs name command → (old : R)
        (run : Run R O E) → rooms.is_modelled old → IsRun h rooms disks outs errs old run
        → command_of run.words ≡ Ok command → IsHeard outs run
        → CosignsOver h rooms disks outs errs name old run
    signing_printed name command signs old run is_modelled is_run spoken heard = elim signs [
      | inl a ↦ cosign_printed name a.0 old run is_modelled is_run (spoken ∙ ap Ok a.1) heard
      | inr a ↦ mirror_cosign_printed name a.0 a.1.0 a.1.1.0 old run is_modelled is_run
          (spoken ∙ ap Ok a.1.1.1) heard
    ]

    pub signatures_printed : SignaturesArePrinted h (program h rooms disks outs errs)
    signatures_printed name command signs old run is_modelled is_run spoken heard =
        (signing_printed name command signs old run is_modelled is_run spoken heard).signed

  pub indices_printed : IndicesArePrinted h (program h rooms disks outs errs)
  indices_printed name file old run is_modelled is_run spoken heard =
      let command = issue name file in
      let s = heard_so h rooms disks outs errs old run command spoken is_modelled is_run heard
      (IssuesSo h (rooms.file old) name file) (issued_so h (rooms.file old) name file) in
      let state = s.found.state in
      let list = s.found.records in
      let are = file_bytes disks (rooms.file old name) (rooms.device old name) s.held bytes
      (contents.0 old name is_modelled) s.there in
      let body = issued_record h (view_in state) s.request in
      record {
        text = s.bytes;
        has_text = record { there = s.has_bytes.there; few = s.has_bytes.few };
        request = s.request;
        asked = s.asked;
        list = list;
        state = state;
        log_is = (found_stands (log_fold h) s.held s.found are s.is_log).1;
        body = body;
        did = did_so h rooms disks outs errs old run command spoken name (appended list body) refl
            s.did;
        item = item_read (view_in state) false (end_offset list)
            (issued_entry h (view_in state) s.request) s.request.key s.fits;
        printed = printed_so h rooms disks outs errs old run is_run heard
            (plain_command h command spoken refl)
            (issued_text (length state.entries)) s.reply_is;
      }

  pub switches_printed : SwitchesArePrinted h (program h rooms disks outs errs)
  switches_printed name old run is_modelled is_run spoken heard =
      let command = switch name in
      let s = heard_so h rooms disks outs errs old run command spoken is_modelled is_run heard
      (SwitchesSo h (rooms.file old) name) (switched_so h (rooms.file old) name) in
      let state = s.found.state in
      let list = s.found.records in
      let are = file_bytes disks (rooms.file old name) (rooms.device old name) s.held bytes
      (contents.0 old name is_modelled) s.there in
      record {
        list = list;
        state = state;
        log_is = (found_stands (log_fold h) s.held s.found are s.is_log).1;
        did = did_so h rooms disks outs errs old run command spoken name
            (appended list (switch_record (length state.entries))) refl s.did;
        printed = printed_so h rooms disks outs errs old run is_run heard
            (plain_command h command spoken refl)
            (switched_line (length state.entries)) s.reply_is;
      }
