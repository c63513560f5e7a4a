-- A mirror and the cosigner that takes its steps from it agree, whatever runs and stops come.
use Rattle.std.proofs.Common.{◌≡◌, inl, inr, ℕ, List, [], ◌∷◌, ◌++◌, length, Option}
use Rattle.std.proofs.Common.{Some, Ok, IsOk, refl, sym, subst, ap, ◌∙◌}
use Rattle.std.proofs.lemmas.List.{append-nil}
use Rattle.byte_formats.specs.Offsets.{IsBytes}
use Rattle.byte_formats.specs.Types.{HashFunction, Text}
use Rattle.byte_formats.proofs.Steps.{ok_is}
use Rattle.disk_core.specs.declared.disk.Disk.{Ghosts as Disks}
use Rattle.file_events.specs.Events.{StatesRepresent}
use Rattle.file_events.specs.Laws.{IsDurablePrefix}
use Rattle.file_events.specs.Mirrors.{Agree, KeepsAgreement}
use Rattle.file_events.specs.Owners.{ServesMirror}
use Rattle.file_events.specs.Worlds.{IsOneFile, Program, states_at, states_of}
use Rattle.file_events.proofs.Owners.{executions_agree, mirror_runs_break}
use Rattle.file_events.proofs.Records.{one_list}
use Rattle.file_events.proofs.Uses.{head_is}
use Rattle.mtc_io.specs.declared.sink.Sink.{Ghosts as Sinks}
use Rattle.mtc_room.specs.declared.room.Room.{Ghosts as Rooms}
use Rattle.cosigner_core.specs.Folds.{CosignerState, cosigner_of}
use Rattle.cosigner_core.proofs.After.{only_begins as cosigner_begins}
use Rattle.issuance_log.specs.Folds.{log_of}
use Rattle.issuance_log.specs.Records.{settings_in}
use Rattle.issuance_log.proofs.After.{only_begins}
use Rattle.mirror_core.specs.Folds.{MirrorState, entries_in_mirror, mirror_of}
use Rattle.mirror_core.specs.Records.{mirror_log_in}
use Rattle.mirror_core.proofs.After.{only_begins as mirror_begins}
use Rattle.mirror_cosigner.specs.Agreement.{Agrees, IsAskedStep, IsChildRecord}
use Rattle.mirror_cosigner.specs.Laws.{AgreementGrows}
use Rattle.mirror_cosigner.proofs.Audited.{never_foreign}
use Rattle.mirror_cosigner.proofs.Growing.{agreement_grows}
use Rattle.mtc_command.proofs.Made.{OnlyNow, ReadsCrashState}
use Rattle.party_history.specs.Rules.{AreRecords}
use Rattle.party_history.proofs.Agreement.{apart, cosigner_no_mirror, log_no_mirror, made_so}
use Rattle.mtc_top.specs.Executions.{program}
use Rattle.mtc_laws.specs.MirrorAgreement.{BothAgree, MirrorsMayBreak, MirrorsAgree}
use Rattle.mtc_laws.specs.MirrorAgreement.{MirrorsAreNeverForeign, mirror_program}
use Rattle.mtc_laws.proofs.Aliases.{ModelsFiles}
use Rattle.mtc_laws.proofs.Beside.{IsOwn}
use Rattle.mtc_laws.proofs.Leaves.{some_crash_state}
use Rattle.mtc_laws.proofs.MirrorRuns.{both_leave, may_do, worked}
use Rattle.mtc_laws.proofs.Printed.{MirrorsAreSound}
use Rattle.mtc_laws.proofs.TilesBeside.{no_cosigner_mirror}

-- ---- more records of one party

module _ (h : HashFunction) (list : List Text) (body : Text) where
  -- the first record stays
  first_stays : (one two : Text) (bodies others : List Text) → list ≡ one ∷ bodies
      → list ++ body ∷ [] ≡ two ∷ others → one ≡ two
  first_stays one two bodies others is more =
      head_is one two (bodies ++ body ∷ []) others
      (sym (ap (λ (l : List Text). l ++ body ∷ []) is) ∙ more)

  mirror_more : (m : MirrorState) → mirror_of h list ≡ Ok m → AreRecords h (list ++ body ∷ [])
      → IsOk (mirror_of h (list ++ body ∷ []))
  mirror_more m was (inr (inr is)) = is
  mirror_more m was (inl is) =
      let state = made_so (log_of h (list ++ body ∷ [])) is in
      let one = mirror_begins h list m was in
      let two = only_begins h (list ++ body ∷ []) state.0 state.1 in
      let same = first_stays one.0 two.0 one.1.0 two.1.0 one.1.1.0 two.1.1.0 in
      absurd (log_no_mirror one.0 state.0.settings m.log (ap settings_in same ∙ two.1.1.1)
      one.1.1.1)
  mirror_more m was (inr (inl is)) =
      let state = made_so (cosigner_of h (list ++ body ∷ [])) is in
      let one = mirror_begins h list m was in
      let two = cosigner_begins h (list ++ body ∷ []) state.0 state.1 in
      let same = first_stays one.0 two.0 one.1.0 two.1.0 one.1.1.0 two.1.1.1.1.0 in
      absurd (cosigner_no_mirror two.0 (two.1.1.0, two.1.1.1.0) m.log two.1.1.1.1.1
      (ap mirror_log_in (sym same) ∙ one.1.1.1))

  cosigner_more : (s : CosignerState) → cosigner_of h list ≡ Ok s
      → AreRecords h (list ++ body ∷ []) → IsOk (cosigner_of h (list ++ body ∷ []))
  cosigner_more s was (inr (inl is)) = is
  cosigner_more s was (inl is) =
      let state = made_so (log_of h (list ++ body ∷ [])) is in
      let one = cosigner_begins h list s was in
      let two = only_begins h (list ++ body ∷ []) state.0 state.1 in
      let same = first_stays one.0 two.0 one.1.0 two.1.0 one.1.1.1.1.0 two.1.1.0 in
      absurd (apart one.0 state.0.settings (one.1.1.0, one.1.1.1.0)
      (ap settings_in same ∙ two.1.1.1) one.1.1.1.1.1)
  cosigner_more s was (inr (inr is)) =
      let state = made_so (mirror_of h (list ++ body ∷ [])) is in
      let one = cosigner_begins h list s was in
      let two = mirror_begins h (list ++ body ∷ []) state.0 state.1 in
      let same = first_stays one.0 two.0 one.1.0 two.1.0 one.1.1.1.1.0 two.1.1.0 in
      absurd (cosigner_no_mirror one.0 (one.1.1.0, one.1.1.1.0) state.0.log one.1.1.1.1.1
      (ap mirror_log_in same ∙ two.1.1.1))

keeps_agreement : (h : HashFunction) → AgreementGrows h → KeepsAgreement (Agrees h) (IsAskedStep h)
    (λ steps body. IsChildRecord body) (AreRecords h) (AreRecords h)
keeps_agreement h grows = record {
  more = λ items steps batch valid agrees. grows.more items steps batch
      (mirror_more h items batch agrees.state agrees.is_mirror valid) agrees;
  computed = λ items steps body asked valid agrees. grows.asked items steps body asked
      (cosigner_more h steps body agrees.signer agrees.is_cosigner valid) agrees;
  neutral = λ items steps body is valid agrees. grows.child items steps body is
      (cosigner_more h steps body agrees.signer agrees.is_cosigner valid) agrees;
}

module _ {R S D O E : Type 0} (h : HashFunction) (rooms : Rooms R S D) (disks : Disks D)
    (outs : Sinks O) (errs : Sinks E) (crash_state : ReadsCrashState disks) (only : OnlyNow disks)
    (contents : ModelsFiles rooms disks)
    (bytes : (d : D) (b : List ℕ) → disks.contents d ≡ Some b → IsBytes b)
    (sized : (b : List ℕ) → length (h b) ≡ 32) (sound : MirrorsAreSound h) where
  abbrev p : Program
  p = program h rooms disks outs errs

  -- a crash leaves something of each file
  some_of : (room : R) → rooms.is_modelled room → (name : Text)
      → (c : Text) × states_of p name room c
  some_of room is_modelled name = some_crash_state disks (rooms.file room name)
      (rooms.device room name) crash_state (contents.0 room name is_modelled)

  module _ (mirror signer : Text) where
    abbrev q : Program
    q = mirror_program h p mirror signer

    -- runs leave of both journals what they have to leave
    serves_both : IsOwn mirror → IsOwn signer → (IsOneFile p mirror signer → ⊥)
        → ServesMirror q (Agrees h) (IsAskedStep h) (λ steps body. IsChildRecord body)
        (AreRecords h) (AreRecords h) mirror signer
    serves_both mirror_own signer_own two = record {
      rooms = record {
        modelled = λ old run is_modelled is. is.0.back.is_modelled is_modelled;
        some = λ room name is_modelled. some_of room is_modelled name;
      };
      may = λ old run is_modelled is. may_do h rooms disks outs errs crash_state only contents
          bytes sized sound mirror signer two old run is_modelled is.0
          (worked h rooms disks outs errs crash_state only contents bytes sized sound mirror signer
          two old run is_modelled is.0 is.1);
      leaves = λ old run is_modelled is. both_leave h rooms disks outs errs crash_state only
          contents bytes sized sound mirror signer two old run is_modelled is.0 mirror_own
          signer_own
          (worked h rooms disks outs errs crash_state only contents bytes sized sound mirror signer
          two old run is_modelled is.0 is.1);
    }

    module _ (old : R) (is_modelled : rooms.is_modelled old)
        (both : BothAgree h p mirror signer old) where
      -- the journals are two files
      two_files : IsOneFile p mirror signer → ⊥
      two_files same =
          let c = (some_of old is_modelled mirror).0 in
          let at = (some_of old is_modelled mirror).1 in
          let other = subst (λ (x : Option D). states_at disks x c)
          (contents.1 old mirror signer is_modelled same) at in
          let lists = one_list c both.items both.steps (both.has_items c at)
          (both.has_steps c other) in
          no_cosigner_mirror h both.steps both.agree.state
          (subst IsOk (sym both.agree.is_cosigner) refl)
          (subst (λ (l : List Text). mirror_of h l ≡ Ok both.agree.state) lists
          both.agree.is_mirror)

      -- the records of each are durable
      durable : (name : Text) (list : List Text) → AreRecords h list
          → StatesRepresent (states_of p name old) list
          → IsDurablePrefix (AreRecords h) list (states_of p name old)
      durable name list are all = record {
        some = some_of old is_modelled name;
        each = λ c at. record {
          list = list;
          stands = all c at;
          begins = ([], append-nil list);
          valid = are;
        };
      }

      first_agree : Agree (Agrees h) (IsAskedStep h) (λ steps body. IsChildRecord body)
          (states_of p mirror old) (states_of p signer old)
      first_agree items steps one other =
          subst (λ (l : List Text). Agrees h l steps)
          (one_list one.0 both.items items (both.has_items one.0 one.1.0) one.1.1)
          (subst (λ (l : List Text). Agrees h both.items l)
          (one_list other.0 both.steps steps (both.has_steps other.0 other.1.0) other.1.1)
          both.agree)

  pub mirrors_agree : MirrorsAgree h p
  mirrors_agree mirror signer old room events is_modelled both execution items steps one other =
      executions_agree (q mirror signer) (Agrees h) (IsAskedStep h)
      (λ steps body. IsChildRecord body) (AreRecords h) (AreRecords h) mirror signer
      (serves_both mirror signer both.mirror_own both.signer_own
      (two_files mirror signer old is_modelled both))
      (keeps_agreement h (agreement_grows h sized sound)) both.items both.steps old room events
      is_modelled execution
      (durable mirror signer old is_modelled both mirror both.items
      (inr (inr (subst IsOk (sym both.agree.is_mirror) refl))) both.has_items)
      (durable mirror signer old is_modelled both signer both.steps
      (inr (inl (subst IsOk (sym both.agree.is_cosigner) refl))) both.has_steps)
      (first_agree mirror signer old is_modelled both) items steps one other

  pub mirrors_never_foreign : MirrorsAreNeverForeign h p
  mirrors_never_foreign mirror signer old room events is_modelled both execution items steps one
      other m x e set is entries kept are by =
      let agrees = mirrors_agree mirror signer old room events is_modelled both execution items
      steps one other in
      let same : m ≡ agrees.state = ok_is ℕ m agrees.state (sym is ∙ agrees.is_mirror) in
      never_foreign h items steps x e set agrees
      (entries ∙ ap entries_in_mirror same) kept are by

  pub mirror_runs_may_break : MirrorsMayBreak h p
  mirror_runs_may_break mirror signer mirror_own signer_own two =
      mirror_runs_break (q mirror signer) (Agrees h) (IsAskedStep h)
      (λ steps body. IsChildRecord body) (AreRecords h) (AreRecords h) mirror signer
      (serves_both mirror signer mirror_own signer_own two)
