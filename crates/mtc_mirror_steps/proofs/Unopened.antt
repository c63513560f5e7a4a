-- A command on the journals of a cosigner and of a mirror of which one wasn't opened: what it has
-- done.
use Rattle.std.proofs.Common.{◌≡◌, ◌≢◌, inl, inr, List, [], ◌∷◌, Option, Some, IfSome}
use Rattle.std.proofs.Common.{Err, option_map, subst, sym, ◌∙◌, ap, refl}
use Rattle.byte_formats.specs.Types.{HashFunction, Text}
use Rattle.mtc_io.specs.Counts.{Rose}
use Rattle.disk_core.specs.Times.{OnlyReads}
use Rattle.disk_core.specs.declared.disk.Disk.{Ghosts}
use Rattle.journal_core.specs.Format.{records_of}
use Rattle.journal_core.specs.Owners.{Owner}
use Rattle.journal_core.specs.declared.error.OpenError.TheVariants as open_error
use Rattle.state_journal.specs.Reasons.{state_open_text}
use Rattle.state_journal.specs.declared.error.StateOpenError.{StateOpenError}
use Rattle.state_journal.specs.declared.error.StateOpenError.TheVariants.{Open}
use Rattle.cosigner_core.specs.Folds.{CosignerState}
use Rattle.cosigner_core.specs.Openings.{CosignerIsNotOpened, CosignerIsOpened, FoundCosigner}
use Rattle.cosigner_core.specs.Openings.{HasCosignerCause, cosigner_read}
use Rattle.mirror_core.specs.Openings.{FoundMirror}
use Rattle.mtc_room.specs.Places.{place_of}
use Rattle.mtc_room.specs.declared.room.Room.{Ghosts as Rooms}
use Rattle.mtc_command.specs.Answers.{Ending, IfReply, no_memory, refused, status_of, tiles_name}
use Rattle.mtc_command.specs.Endings.{FailedOnly, IsNamed}
use Rattle.mtc_command.specs.Made.{untouched}
use Rattle.mtc_command.specs.Served.{ClosesAll, HasServed}
use Rattle.mtc_command.specs.Steps.{Outcome, answers, with_file}
use Rattle.mtc_command.specs.Works.{HasClosed, HasOpened}
use Rattle.mtc_command.specs.declared.answer.Stopped.TheVariants.{BadForm}
use Rattle.mtc_command.proofs.Beside.{ModelsAll, longer_other}
use Rattle.mtc_command.proofs.Made.{OnlyNow, kept_of, left_opened, still}
use Rattle.mtc_command.proofs.Served.{failed_so, reply_so}
use Rattle.mtc_command.proofs.Valid.{gives_same, kept_valid}
use Rattle.mtc_command.proofs.Works.{each_some, of_bytes, opened_at}
use Rattle.mtc_cosigner.specs.Works.{IsCosigner, cosigner_bytes_say, cosigner_open_ending}
use Rattle.mtc_cosigner.specs.Works.{cosigner_outcome, found_cosigner}
use Rattle.mtc_cosigner.proofs.Opened.{IsFound, found_says}
use Rattle.mtc_mirror.specs.OpenMirrors.{MirrorWasNotOpened, mirror_party}
use Rattle.mtc_mirror.specs.Works.{mirror_bytes_say, mirror_outcome}
use Rattle.mtc_mirror.proofs.Opened.{mirror_not_opened}
use Rattle.mtc_tiled.specs.Headers.{SparesTiles}
use Rattle.mtc_tiled.specs.Openings.{PartyWasNotOpened}
use Rattle.mtc_tiled.proofs.OnlyRead.{spared_kept}
use Rattle.mtc_mirror_steps.specs.ReadSecond.{HasOnlyRead}
use Rattle.mtc_mirror_steps.specs.StepOutcomes.{mirror_step_outcome}
use Rattle.mtc_mirror_steps.specs.StepWorks.{HasServedBoth, ServesAround}
use Rattle.mtc_mirror_steps.proofs.Around.{OneDevice, around_only_reads, around_reads}
use Rattle.mtc_mirror_steps.proofs.Around.{around_spares, closed_read, none_read, put_back}
use Rattle.mtc_mirror_steps.proofs.Around.{rose_first, rose_inner}
use Rattle.mtc_mirror_steps.proofs.Nests.{mirror_early, no_cosigner_wanted}
use Rattle.mtc_mirror_steps.proofs.SecondRead.{devices_not_read, devices_read}
use Rattle.mtc_mirror_steps.proofs.Stopped.{IsEarlyReply, absent_early, closed_done}
use Rattle.mtc_mirror_steps.proofs.Stopped.{stopped_done, stopped_valid, unmet}
use Rattle.mtc_mirror_steps.proofs.Together.{is_cosigner_journal, known_cosigner}

module _ {R S D : Type 0} (rooms : Rooms R S D) (g : Ghosts D) (only_now : OnlyNow g)
    (all : ModelsAll rooms g) (one : OneDevice rooms) (h : HashFunction) (name second : Text) where
  abbrev beside : Text
  beside = tiles_name second

  abbrev files : List Text
  files = name ∷ second ∷ beside ∷ []

  -- ---- nothing is open

  module _ (wanted : Outcome) (old new : R) (read : ClosesAll rooms old new []) (ending : Ending)
    where
      pub closed_serves : FailedOnly (Rose (rooms.faults old) (rooms.faults new)) files ending
          → IfReply ending (λ reply. status_of reply ≢ 1)
          → (rooms.is_modelled old → IfReply ending (IsEarlyReply wanted))
          → HasServedBoth h rooms g name second wanted old new ending
      closed_serves fault plain is =
          let second_read = closed_read rooms g all one second old new read only_now in
          record {
            done = closed_done rooms g only_now name second files wanted old new read ending fault
                plain is;
            valid = kept_valid rooms g (IsCosigner h) (name ∷ second ∷ []) wanted old new read
                only_now;
            mirror_stays = second_read.journal_stays;
            only_read = second_read.only_read;
            spares_first = spared_kept rooms name old new read;
            spares_second = second_read.spares;
            second = λ t. inl (still g (rooms.device old name) (rooms.device new name) untouched
                only_now (read.others name tt).disk).crash_states.now_is;
          }

  -- memory was refused before anything was opened
  pub nothing_serves : (wanted : Outcome) (old : R)
      → HasServedBoth h rooms g name second wanted old old no_memory
  nothing_serves wanted old =
      closed_serves wanted old old (gives_same rooms old) no_memory tt tt (λ t. tt)

  -- the journal of the cosigner isn't there, or the file system failed at it
  pub absent_serves : (says : Text → Outcome) (old new : R) (ending : Ending)
      → ((names : List Text) (next : Text → Outcome) → IsNamed names name
      → HasServed rooms g names name (with_file name (rooms.file old name) next) old new ending)
      → ClosesAll rooms old new []
      → HasServedBoth h rooms g name second (with_file name (rooms.file old name) says) old new
      ending
  absent_serves says old new ending serves read =
      let ends = (serves files (λ bytes. unmet) (inl refl)).ends in
      closed_serves (with_file name (rooms.file old name) says) old new read ending ends.fault
      ends.not_words
      (λ t. reply_so ending _ _ (λ reply meets.
      absent_early name (rooms.file old name) says reply (meets t)) ends.reply)

  -- ---- the journal of the cosigner was opened

  module _ (wanted : Outcome) (old mid kept new : R) (d d' : D)
      (opened : HasOpened rooms g name old mid d)
      (inner : HasOnlyRead rooms g second mid kept)
      (closed : HasClosed rooms g name kept new d')
      (apart : place_of rooms.leads_to name ≢ place_of rooms.leads_to (tiles_name second))
      (only : OnlyReads g d d') where
    stopped_serves : (ending : Ending)
        → FailedOnly (Rose (rooms.faults old) (rooms.faults new)) files ending
        → IfReply ending (λ reply. status_of reply ≢ 1)
        → (rooms.is_modelled old → IfReply ending (IsEarlyReply wanted))
        → SparesTiles rooms old new name
        → HasServedBoth h rooms g name second wanted old new ending
    stopped_serves ending fault plain is spares = record {
      done = stopped_done rooms g only_now name second files wanted all one old mid kept new d d'
          opened inner closed apart only ending fault plain is;
      valid = stopped_valid rooms g only_now name second files wanted all one old mid kept new d d'
          opened inner closed apart only (IsCosigner h);
      mirror_stays = around_reads rooms g all one name second old mid kept new d d' opened inner
          closed apart (λ t same. only);
      only_read = around_only_reads rooms g all one name second old mid kept new d d' opened inner
          closed apart (λ t same. only);
      spares_first = spares;
      spares_second = around_spares rooms g all one name second old mid kept new d d' opened inner
          closed apart (λ t same. only);
      second = λ t. inl (left_opened g no_memory untouched (rooms.device old name)
          (rooms.device new name) d d' (opened.device t)
          (put_back rooms g all one name second old mid kept new d d' opened inner closed apart t)
          (kept_of g d d' untouched only)).crash_states.now_is;
    }

  module _ (says : FoundCosigner → FoundMirror → Outcome)
      (apart : place_of rooms.leads_to name ≢ place_of rooms.leads_to (tiles_name second)) where
    -- it is no cosigner's, or reading it failed
    module _ (old mid new : R) (d d' : D) (opened : HasOpened rooms g name old mid d)
        (closed : HasClosed rooms g name mid new d') (only : OnlyReads g d d') where
      spares_tiles : SparesTiles rooms old new name
      spares_tiles t not =
          let tiles = tiles_name name in
          let after = closed.others tiles (λ same. longer_other rooms.leads_to name (sym same)) in
          record {
            bytes = after.bytes ∙ (opened.stay tiles).bytes;
            disk = after.disk ∙ (opened.stay tiles).disk;
          }

      refused_with : (ending : Ending)
          → FailedOnly (Rose (rooms.faults old) (rooms.faults new)) files ending
          → IfReply ending (λ reply. status_of reply ≢ 1)
          → (rooms.is_modelled old → IfReply ending
          (IsEarlyReply (mirror_step_outcome h name second says (rooms.file old))))
          → HasServedBoth h rooms g name second
          (mirror_step_outcome h name second says (rooms.file old)) old new ending
      refused_with ending fault plain is = stopped_serves
          (mirror_step_outcome h name second says (rooms.file old)) old mid mid new d d' opened
          (none_read rooms g all one second mid only_now) closed apart only ending fault plain is
          spares_tiles

      rose_of : Rose (g.faults d) (g.faults d') → Rose (rooms.faults old) (rooms.faults new)
      rose_of = rose_first rooms g all one name second old mid mid new d d' opened
          (none_read rooms g all one second mid only_now) closed apart

      refused_file : (why : StateOpenError)
          → IfSome (g.contents d) (λ b. cosigner_read h b ≡ Err why)
          → rooms.is_modelled old
          → IsEarlyReply (mirror_step_outcome h name second says (rooms.file old))
          (refused BadForm (Some name) (state_open_text why))
      refused_file why read t = record {
        early = inr (inl refl);
        is = no_cosigner_wanted h name _ (rooms.file old name) (g.contents d) why (opened.bytes t)
            read;
      }

      refused_by : (why : StateOpenError) → HasCosignerCause g h d d' why
          → HasServedBoth h rooms g name second
          (mirror_step_outcome h name second says (rooms.file old)) old new
          (cosigner_open_ending name why)
      refused_by (Open open_error.Failed) cause = refused_with (cosigner_open_ending name
          (Open open_error.Failed)) (rose_of cause, inl refl) tt (λ t. tt)
      refused_by (Open open_error.Memory) cause =
          refused_with (cosigner_open_ending name (Open open_error.Memory)) tt tt (λ t. tt)
      refused_by why cause = refused_with (cosigner_open_ending name why) tt (λ e. absurd cc)
          (refused_file why cause)

    pub cosigner_refused : (mid : R) (d d' : D) (why : StateOpenError)
        → CosignerIsNotOpened g h d d' why
        → ServesAround h rooms g name second says mid mid d d' (cosigner_open_ending name why)
    cosigner_refused mid d d' why is old new opened closed =
        refused_by old mid new d d' opened closed is.only_reads why is.cause

    -- the mirror wasn't opened
    module _ (mid kept : R) (d : D) (it : Owner D CosignerState) (ending : Ending)
        (is : CosignerIsOpened g h d it)
        (refused : MirrorWasNotOpened rooms g second h mid kept ending) where
      second_read : HasOnlyRead rooms g second mid kept
      second_read = elim refused [
        | inl devices ↦ devices_not_read rooms g all one second mid kept ending only_now devices
        | inr over ↦ devices_read rooms g all one second mid kept over.both over.disk over.disk'
            over.tiles over.tiles' over.opened over.closed over.is.only_reads
            over.is.only_reads_tiles
      ]

      not_served : PartyWasNotOpened rooms g second (mirror_party h)
          (mirror_bytes_say h second (λ mirror. unmet)) mid kept ending
      not_served =
          mirror_not_opened h second (λ mirror. unmet) rooms g mid kept ending only_now all refused

      abbrev rest : FoundCosigner → Outcome
      rest cosigner = mirror_outcome h second (rooms.file mid second) (rooms.file mid beside)
          (says cosigner)

      abbrev bytes_say : Text → Outcome
      bytes_say = cosigner_bytes_say h name rest

      abbrev next : List Text → Outcome
      next l = rest (found_cosigner it.state l)

      found : IsFound g bytes_say next d it.disk (option_map records_of (g.contents it.disk))
      found = subst (IsFound g bytes_say next d it.disk) is.list (record {
        contents = found_says h name rest (g.contents d) it.records it.state is.found;
        stands = is.stands;
        all = is.all;
      })

      wanted_by : (old : R) → HasOpened rooms g name old mid d → rooms.is_modelled old
          → IfReply ending (IsEarlyReply (cosigner_outcome h name (rooms.file old name) rest))
      wanted_by old opened t = reply_so ending _ _ (λ reply meets.
          let each : (then : FoundMirror → Outcome)
          → IsEarlyReply (mirror_outcome h second (rooms.file mid second)
          (rooms.file mid beside) then) reply
          = λ then. mirror_early h second (rooms.file mid beside) reply then
          (rooms.file mid second) (meets (opened.is_modelled t)) in
          record {
            early = (each (λ mirror. unmet)).early;
            is = of_bytes (λ w. w ≡ answers reply) name (rooms.file old name) (g.contents d)
                bytes_say (opened.bytes t)
                (opened_at g name bytes_say next d it.disk it.disk (λ w. w ≡ answers reply)
                (g.contents d) (g.contents it.disk) refl is.only_reads.contents found.contents
                found.stands found.all
                (each_some (option_map records_of (g.contents it.disk)) _
                (λ l opened_first. (each (says (found_cosigner it.state l))).is)));
          }) not_served.serves.ends.reply

      pub mirror_unopened : ServesAround h rooms g name second says mid kept d it.disk ending
      mirror_unopened old new opened closed =
          subst (λ (w : Outcome). HasServedBoth h rooms g name second w old new ending)
          (ap (λ (x : Option Text). cosigner_outcome h name (rooms.file old name)
          (λ cosigner. mirror_outcome h second x (rooms.file mid beside) (says cosigner)))
          (opened.stay second).bytes
          ∙ ap (λ (y : Option Text). cosigner_outcome h name (rooms.file old name)
          (λ cosigner. mirror_outcome h second (rooms.file old second) y (says cosigner)))
          (opened.stay beside).bytes)
          (stopped_serves (cosigner_outcome h name (rooms.file old name) rest) old mid kept new d
          it.disk opened second_read closed apart is.only_reads ending
          (failed_so ending _ _ (second ∷ beside ∷ []) files
          (rose_inner rooms g all one name second old mid kept new d it.disk opened second_read
          closed apart) (λ file named. inr named) not_served.serves.ends.fault)
          not_served.serves.ends.not_words (wanted_by old opened)
          (λ t not. absurd (is_cosigner_journal h (rooms.file old name)
          (known_cosigner rooms g h name old mid d it opened is t) not)))
