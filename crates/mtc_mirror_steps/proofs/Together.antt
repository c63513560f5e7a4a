-- A command on the journals of a cosigner and of a mirror: both were opened, the cosigner took a
-- step, and all was closed. What the command has done.
use Rattle.std.proofs.Common.{◌≡◌, ◌≢◌, ◌⊎◌, inl, inr, List, [], ◌∷◌, Option, None, Some, IfSome}
use Rattle.std.proofs.Common.{IsSome, Ok, option_map, subst, sym, ◌∙◌, ap, refl, arith}
use Rattle.std.specs.Option.{IsSomeAnd}
use Rattle.std.proofs.lemmas.Option.{IfSome_then, same_Some}
use Rattle.byte_formats.specs.Types.{HashFunction, Text}
use Rattle.mtc_io.specs.Counts.{Rose}
use Rattle.disk_core.specs.Same.{SameDevice}
use Rattle.disk_core.specs.Times.{OnlyReads}
use Rattle.disk_core.specs.declared.disk.Disk.{Ghosts}
use Rattle.disk_core.proofs.Times.{only_read_on}
use Rattle.journal_core.specs.Format.{records_of}
use Rattle.journal_core.specs.Owners.{Owner}
use Rattle.file_events.specs.Worlds.{states_at}
use Rattle.tree_core.specs.declared.hashing.TreeHash.{Ghosts as Hashes}
use Rattle.cosigner_core.specs.Folds.{CosignerState, cosigner_fold}
use Rattle.cosigner_core.specs.Openings.{CosignerIsOpened, FoundCosigner, cosigner_read}
use Rattle.mirror_core.specs.Openings.{FoundMirror}
use Rattle.mirror_core.specs.Words.{mirror_both_records, mirror_disk, mirror_tiles_disk}
use Rattle.mirror_core.specs.declared.mirror.Mirror.{Mirror}
use Rattle.mtc_room.specs.Places.{place_of}
use Rattle.mtc_room.specs.declared.room.Room.{Ghosts as Rooms}
use Rattle.mtc_command.specs.Answers.{Ending, IfReply, no_memory, replied, room_failed, said}
use Rattle.mtc_command.specs.Answers.{status_of, tiles_name, IsEarly}
use Rattle.mtc_command.specs.Endings.{AddsBy, FailedOnly, FailsAt, LeftBy}
use Rattle.mtc_command.specs.Made.{IsOpen, Journaled, Leaves, ReadsAtMost, reads, untouched}
use Rattle.mtc_command.specs.Served.{HasDone, done_with, first_journaled, rest_journaled}
use Rattle.mtc_command.specs.Steps.{Outcome, answers}
use Rattle.mtc_command.specs.Stored.{MayRepresent}
use Rattle.mtc_command.specs.Valid.{AddsValid, KeepsValid, ServesValidly}
use Rattle.mtc_command.specs.Wanted.{Meets}
use Rattle.mtc_command.specs.Works.{HasClosed, HasGiven, HasOpened, journaled_by}
use Rattle.mtc_command.specs.declared.answer.Said.TheVariants.{Done}
use Rattle.mtc_command.proofs.Beside.{ModelsAll, rose_on}
use Rattle.mtc_command.proofs.Beside.{put_back as put_beside_back}
use Rattle.mtc_command.proofs.Made.{ReadsCrashState, kept_of, left_opened, worked}
use Rattle.mtc_command.proofs.Served.{reply_so}
use Rattle.mtc_command.proofs.Valid.{contents_opened, valid_on}
use Rattle.mtc_command.proofs.Works.{each_some, given_on, of_bytes, opened_at, rose_with}
use Rattle.mtc_cosigner.specs.Works.{IsCosigner, cosigner_bytes_say, cosigner_outcome}
use Rattle.mtc_cosigner.specs.Works.{found_cosigner}
use Rattle.mtc_cosigner.proofs.Opened.{IsFound, found_says}
use Rattle.mtc_mirror.specs.OpenMirrors.{MirrorWasOpened}
use Rattle.mtc_mirror.specs.Works.{mirror_outcome}
use Rattle.mtc_tiled.specs.Openings.{DevicesWereClosed}
use Rattle.mtc_tiled.specs.Headers.{IsNoJournal}
use Rattle.mtc_mirror_steps.specs.ReadSecond.{HasOnlyRead}
use Rattle.mtc_mirror_steps.specs.SecondStands.{SecondStands}
use Rattle.mtc_mirror_steps.specs.StepOutcomes.{mirror_step_outcome}
use Rattle.mtc_mirror_steps.specs.StepWorks.{GivesOnFirst, HasServedBoth, HasTakenStep, step_says}
use Rattle.mtc_mirror_steps.proofs.Around.{OneDevice, around_done, around_only_reads, around_reads}
use Rattle.mtc_mirror_steps.proofs.Around.{around_spares, one_file, put_back, rose_first}
use Rattle.mtc_mirror_steps.proofs.Around.{rose_inner}
use Rattle.mtc_mirror_steps.proofs.OneKind.{cosigner_is_no_mirror, read_begins}
use Rattle.mtc_mirror_steps.proofs.Known.{KnowsMirror, known, some_at}
use Rattle.mtc_mirror_steps.proofs.SecondRead.{devices_read}

-- The second journal of this outcome is only read.
abbrev pub ReadsSecond : (FoundCosigner → FoundMirror → Outcome) → Type 0
ReadsSecond says = (cosigner : FoundCosigner) (mirror : FoundMirror)
    → first_journaled (rest_journaled (says cosigner mirror).journals) ≡ reads mirror.records

adds_reads : {D : Type 0} (g : Ghosts D) (ending : Ending) (list : List Text) (mid new : D)
    → IsOpen g mid list → new ≡ mid → AddsBy g ending (reads list) mid new
adds_reads g (replied reply) list mid new opened same = (opened, inl same)
adds_reads g (room_failed file) list mid new opened same = (opened, inl same)
adds_reads g no_memory list mid new opened same = inl same

fails_so : (ending : Ending) (A B Fault : Type 0) (name second beside : Text) → (A → Fault)
    → (B → Fault) → FailsAt A name B beside ending
    → FailedOnly Fault (name ∷ second ∷ beside ∷ []) ending
fails_so (replied reply) A B Fault name second beside so more is = tt
fails_so (room_failed at) A B Fault name second beside so more is = elim is [
  | inl first ↦ (so first.1, inl first.0)
  | inr other ↦ (more other.1, inr (inr (inl other.0)))
]
fails_so no_memory A B Fault name second beside so more is = tt

nothing_said : Text → Text → Outcome
nothing_said bytes held = answers (said Done [])

-- ---- the cosigner

-- What is known of a cosigner that was opened: the file is read as its journal.
pub record KnowsCosigner (h : HashFunction) (file : Option Text) : Type 0 where
  pub bytes : Text
  pub found : FoundCosigner
  pub there : file ≡ Some bytes
  pub is_read : cosigner_read h bytes ≡ Ok found

module _ {R S D : Type 0} (rooms : Rooms R S D) (g : Ghosts D) (h : HashFunction) (name : Text)
    (old mid : R) (d : D) (it : Owner D CosignerState) (opened : HasOpened rooms g name old mid d)
    (is : CosignerIsOpened g h d it) where
  cosigner_by : rooms.is_modelled old → (file : Option Text) → rooms.file old name ≡ file
      → KnowsCosigner h (rooms.file old name)
  cosigner_by t None none = let there = subst IsSome none (opened.bytes t).there in absurd cc
  cosigner_by t (Some bytes) at =
      let first : g.contents d ≡ Some bytes = (opened.bytes t).same ∙ at in
      let kept : g.contents it.disk ≡ Some bytes = is.only_reads.contents ∙ first in
      let list : it.records ≡ Some (records_of bytes)
      = is.list ∙ ap (option_map records_of) kept in
      record {
        bytes = bytes;
        found = found_cosigner it.state (records_of bytes);
        there = at;
        is_read = some_at it.records (records_of bytes) _ list
            (some_at (g.contents d) bytes _ first is.found);
      }

  pub known_cosigner : rooms.is_modelled old → KnowsCosigner h (rooms.file old name)
  known_cosigner t = cosigner_by t (rooms.file old name) refl

-- so it is a journal
pub is_cosigner_journal : (h : HashFunction) (file : Option Text) → KnowsCosigner h file
    → IsNoJournal file → ⊥
is_cosigner_journal h file k not =
    let isnt = subst IsNoJournal k.there not in
    isnt (read_begins (cosigner_fold h) k.bytes k.found k.is_read).0

-- ---- both

module _ {R S D H : Type 0} {hashes : Hashes H} (rooms : Rooms R S D) (g : Ghosts D)
    (crash_state : ReadsCrashState g) (all : ModelsAll rooms g) (one : OneDevice rooms)
    (name second : Text) (says : FoundCosigner → FoundMirror → Outcome)
    (reads_second : ReadsSecond says) (old mid both kept new : R) (d : D)
    (it : Owner D CosignerState) (d' : D) (mirror later : Mirror H D D hashes g g)
    (ending : Ending) (opened : HasOpened rooms g name old mid d)
    (is : CosignerIsOpened g hashes.hash d it)
    (opened_second : MirrorWasOpened rooms g second mid both mirror)
    (stepped : HasTakenStep name second says it d' mirror later ending)
    (closed_second : DevicesWereClosed rooms g second both kept (mirror_disk later)
    (mirror_tiles_disk later)) (closed : HasClosed rooms g name kept new d')
    (apart : place_of rooms.leads_to name ≢ place_of rooms.leads_to (tiles_name second)) where
  abbrev h : HashFunction
  h = hashes.hash

  abbrev beside : Text
  beside = tiles_name second

  -- what comes after the cosigner was found
  abbrev rest : FoundCosigner → Outcome
  rest cosigner = mirror_outcome h second (rooms.file mid second) (rooms.file mid beside)
      (says cosigner)

  abbrev bytes_say : Text → Outcome
  bytes_say = cosigner_bytes_say h name rest

  abbrev wanted : Outcome
  wanted = cosigner_outcome h name (rooms.file old name) rest

  abbrev next : List Text → Outcome
  next list = rest (found_cosigner it.state list)

  abbrev list : Option (List Text)
  list = option_map records_of (g.contents it.disk)

  abbrev header_disk : D
  header_disk = opened_second.devices.header.opened_disk

  -- ---- the mirror was only read

  read_second : OnlyReads g opened_second.disk (mirror_disk later)
  read_second = subst (OnlyReads g opened_second.disk) (sym stepped.asks.disk)
      opened_second.is.only_reads

  inner : HasOnlyRead rooms g second mid kept
  inner = devices_read rooms g all one second mid kept both opened_second.disk (mirror_disk later)
      opened_second.tiles (mirror_tiles_disk later) opened_second.devices closed_second read_second
      (only_read_on g opened_second.tiles (mirror_tiles_disk mirror) (mirror_tiles_disk later)
      opened_second.is.only_reads_tiles stepped.asks.tiles)

  knows : rooms.is_modelled old → KnowsMirror rooms g second mid both mirror opened_second
  knows t = known rooms g second mid both mirror opened_second (opened.is_modelled t)

  -- it is in another file than the cosigner
  two : rooms.is_modelled old
      → place_of rooms.leads_to name ≡ place_of rooms.leads_to second → ⊥
  two t same =
      let c = known_cosigner rooms g h name old mid d it opened is t in
      let m = knows t in
      let bytes : c.bytes ≡ m.bytes = same_Some c.bytes m.bytes (sym c.there
      ∙ (one_file rooms g all one old name second t same
      ∙ (sym (opened.stay second).bytes ∙ m.there))) in
      cosigner_is_no_mirror h m.bytes c.found _
      (subst (λ (b : Text). cosigner_read h b ≡ Ok c.found) bytes c.is_read) m.is_read

  -- ---- the work on the device of the cosigner

  found : IsFound g bytes_say next d it.disk list
  found = subst (IsFound g bytes_say next d it.disk) is.list (record {
    contents = found_says h name rest (g.contents d) it.records it.state is.found;
    stands = is.stands;
    all = is.all;
  })

  module _ (k : KnowsMirror rooms g second mid both mirror opened_second) where
    next_is : (l : List Text) → next l ≡ step_says says it mirror k.list l
    next_is l = k.outcome (says (found_cosigner it.state l))

    gives : GivesOnFirst g it.records (step_says says it mirror k.list) it.disk d' ending
    gives = some_at (mirror_both_records mirror) k.list _ k.records stepped.gives

    given : HasGiven g bytes_say d d' ending
    given = given_on g name bytes_say next d it.disk d' ending crash_state is.only_reads
        found.contents found.stands found.all
        (subst (λ (o : Option (List Text)).
        IfReply ending (λ reply. IfSome o (λ l. Meets (next l).answer reply))) is.list
        (reply_so ending _ _ (λ reply meets. IfSome_then it.records meets (λ l m.
        subst (λ (w : Outcome). Meets w.answer reply) (sym (next_is l)) m)) gives.reply))
        (subst (λ (o : Option (List Text)). IfSome o (λ l. IsOpen g it.disk l
        → AddsBy g ending (journaled_by (next l)) it.disk d')) is.list
        (IfSome_then it.records gives.adds (λ l adds opened_first.
        subst (λ (w : Outcome). AddsBy g ending (journaled_by w) it.disk d') (sym (next_is l))
        (adds opened_first))))

    serves_validly : ServesValidly g (IsCosigner h) bytes_say d d'
    serves_validly = valid_on g (IsCosigner h) name bytes_say next d it.disk d' is.only_reads
        found.contents found.stands found.all
        (subst (λ (o : Option (List Text)). ReadsAtMost g it.disk d'
        ⊎ IfSome o (λ l. AddsValid (IsCosigner h) (journaled_by (next l)))) is.list
        (elim (some_at (mirror_both_records mirror) k.list _ k.records stepped.valid) [
          | inl only ↦ inl only
          | inr adds ↦ inr (IfSome_then it.records adds (λ l valid.
              subst (λ (w : Outcome). AddsValid (IsCosigner h) (journaled_by w)) (sym (next_is l))
              valid))
        ]))

    -- the second journal of the outcome
    second_is : rooms.is_modelled old
        → first_journaled (rest_journaled wanted.journals) ≡ reads k.list
    second_is t = of_bytes (λ w. first_journaled (rest_journaled w.journals) ≡ reads k.list) name
        (rooms.file old name) (g.contents d) bytes_say (opened.bytes t)
        (opened_at g name bytes_say next d it.disk d'
        (λ w. first_journaled (rest_journaled w.journals) ≡ reads k.list) (g.contents d)
        (g.contents it.disk) refl is.only_reads.contents found.contents found.stands found.all
        (each_some list _ (λ l opened_first.
        ap (λ (w : Outcome). first_journaled (rest_journaled w.journals)) (next_is l)
        ∙ reads_second (found_cosigner it.state l) _)))

    -- what is left of it, however the command ends
    left_second : (end : Ending) → rooms.is_modelled old → Leaves g (LeftBy end (reads k.list))
        (rooms.device mid second) (rooms.device kept second)
    left_second end t =
        let devices = opened_second.devices in
        left_opened g end (reads k.list) (rooms.device mid second) (rooms.device kept second)
        header_disk (mirror_disk later) (devices.header.opened.device (opened.is_modelled t))
        (put_beside_back rooms g second [] nothing_said mid devices.mid both closed_second.mid kept
        header_disk (mirror_disk later) opened_second.tiles (mirror_tiles_disk later) no_memory
        devices.header.opened devices.beside closed_second.beside closed_second.journal
        (opened.is_modelled t))
        (worked g header_disk (mirror_disk mirror) (mirror_disk later) end (reads k.list)
        crash_state
        (only_read_on g header_disk opened_second.disk (mirror_disk mirror)
        devices.header.only_reads opened_second.is.only_reads)
        (adds_reads g end k.list (mirror_disk mirror) (mirror_disk later) k.is_open
        stepped.asks.disk))

  -- ---- what the command has done

  put : rooms.is_modelled old → IsSomeAnd (rooms.device new name) (λ x. SameDevice g d' x)
  put t = put_back rooms g all one name second old mid kept new d d' opened inner closed apart t

  rose_tiles : Rose (g.faults (mirror_tiles_disk mirror)) (g.faults (mirror_tiles_disk later))
      → Rose (rooms.faults mid) (rooms.faults kept)
  rose_tiles rose =
      let devices = opened_second.devices in
      rose_on (rooms.faults mid) (rooms.faults closed_second.mid) (rooms.faults kept)
      (subst (λ n. Rose n (rooms.faults closed_second.mid))
      (devices.beside.fine ∙ devices.header.opened.fine)
      (subst (Rose (rooms.faults both)) (sym closed_second.beside.count)
      (rose_with (rooms.faults both) (g.faults (mirror_tiles_disk later))
      (subst (λ n. Rose n (g.faults (mirror_tiles_disk later)))
      (opened_second.is.fine_tiles ∙ devices.beside.begins) rose))))
      (omega (arith, closed_second.journal.count))

  reads_first : rooms.is_modelled old
      → place_of rooms.leads_to name ≡ place_of rooms.leads_to second → OnlyReads g d d'
  reads_first t same = absurd (two t same)

  done : HasDone rooms g ⊥ (name ∷ second ∷ beside ∷ []) (name ∷ second ∷ []) (beside ∷ []) wanted
      old new ending
  done = around_done rooms g all one name second old mid kept new d d' opened inner closed apart
      reads_first (name ∷ second ∷ beside ∷ []) wanted ending
      (fails_so ending _ _ _ name second beside
      (λ rose. rose_first rooms g all one name second old mid kept new d d' opened inner closed
      apart (subst (λ n. Rose n (g.faults d')) is.fine rose))
      (λ rose. rose_inner rooms g all one name second old mid kept new d d' opened inner closed
      apart (rose_tiles rose)) stepped.fault)
      stepped.plain
      (λ t. reply_so ending _ _ (λ reply meets. of_bytes (λ w. Meets w.answer reply) name
      (rooms.file old name) (g.contents d) bytes_say (opened.bytes t) meets)
      (given (knows t)).reply)
      (λ t. reply_so ending _ _ (λ reply early. (
        of_bytes (λ w. journaled_by w ≡ untouched → IsEarly (status_of reply)) name
            (rooms.file old name) (g.contents d) bytes_say (opened.bytes t) early,
        (λ unopened. let never = sym (second_is (knows t) t) ∙ unopened in absurd cc, tt),
      )) (given (knows t)).early)
      (λ t. of_bytes (λ w. Leaves g (LeftBy ending (journaled_by w)) (Some d) (Some d')) name
      (rooms.file old name) (g.contents d) bytes_say (opened.bytes t) (given (knows t)).left)
      (λ t same. absurd (two t same))
      (λ t other. subst (λ (did : Journaled). Leaves g (LeftBy ending did)
      (rooms.device mid second) (rooms.device kept second)) (sym (second_is (knows t) t))
      (left_second (knows t) ending t))

  valid : KeepsValid rooms g (IsCosigner h) (name ∷ second ∷ []) wanted old new
  valid t =
      let did = first_journaled wanted.journals in (
        elim (serves_validly (knows t)) [
          | inl only ↦ inl (
            left_opened g no_memory did (rooms.device old name) (rooms.device new name) d d'
                (opened.device t) (put t) (kept_of g d d' did only),
            contents_opened g (rooms.device old name) (rooms.device new name) d d'
                (opened.device t) (put t) only.contents,
          )
          | inr adds ↦ inr (of_bytes (λ w. AddsValid (IsCosigner h) (journaled_by w)) name
              (rooms.file old name) (g.contents d) bytes_say (opened.bytes t) adds)
        ],
        (inr (subst (AddsValid (IsCosigner h)) (sym (second_is (knows t) t)) tt), tt),
      )

  -- the mirror represents what was found in it
  stands : rooms.is_modelled old
      → SecondStands rooms g old new (done_with (name ∷ second ∷ []) wanted.journals)
  stands t =
      let k = knows t in
      let after = (closed.others second (λ same. two t (sym same))).disk in
      inr (subst (λ (did : Journaled). MayRepresent did (states_at g (rooms.device new second)))
      (sym (second_is k t))
      (subst (λ (x : Option D). MayRepresent (reads k.list) (states_at g x)) (sym after)
      (left_second k (replied (said Done [])) t).crash_states.now_is))

  pub stepped_serves : HasServedBoth h rooms g name second
      (mirror_step_outcome h name second says (rooms.file old)) old new ending
  stepped_serves = subst (λ (w : Outcome). HasServedBoth h rooms g name second w old new ending)
      (ap (λ (x : Option Text). cosigner_outcome h name (rooms.file old name)
      (λ cosigner. mirror_outcome h second x (rooms.file mid beside) (says cosigner)))
      (opened.stay second).bytes
      ∙ ap (λ (y : Option Text). cosigner_outcome h name (rooms.file old name)
      (λ cosigner. mirror_outcome h second (rooms.file old second) y (says cosigner)))
      (opened.stay beside).bytes)
      (record {
        done = done;
        valid = valid;
        mirror_stays = around_reads rooms g all one name second old mid kept new d d' opened inner
            closed apart reads_first;
        only_read = around_only_reads rooms g all one name second old mid kept new d d' opened
            inner closed apart reads_first;
        spares_first = λ t not. absurd (is_cosigner_journal h (rooms.file old name)
            (known_cosigner rooms g h name old mid d it opened is t) not);
        spares_second = around_spares rooms g all one name second old mid kept new d d' opened
            inner closed apart reads_first;
        second = stands;
      })
