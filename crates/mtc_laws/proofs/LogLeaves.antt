-- What a run leaves of the journal of a log or a mirror and of the file of its tiles, at once.
use Rattle.std.proofs.Common.{◌≡◌, ◌⊎◌, inl, inr, ℕ, Bool, true, false, List, [], ◌∷◌, ◌++◌, Option}
use Rattle.std.proofs.Common.{IsOk, Some, codes, refl, subst, sym, ◌∙◌}
use Rattle.byte_formats.specs.Offsets.{IsBytes}
use Rattle.byte_formats.specs.Types.{HashFunction, Text}
use Rattle.cosigner_core.specs.Folds.{cosigner_of}
use Rattle.disk_core.specs.Disk.{NoNew}
use Rattle.disk_core.specs.declared.disk.Disk.{Ghosts as Disks}
use Rattle.file_events.specs.Events.{CrashStates, Done, HalfDone, Happens}
use Rattle.file_events.specs.Owners.{ServesLog}
use Rattle.file_events.specs.Tiles.{AllGo, LeavesTiles, stored}
use Rattle.file_events.specs.Works.{LeavesAll, journal_work, tiles_work}
use Rattle.file_events.specs.Worlds.{all_states, broke_off, done_to, event_with}
use Rattle.file_events.specs.Worlds.{states_at, heard_of}
use Rattle.file_events.proofs.Records.{one_list}
use Rattle.journal_core.specs.Format.{Represents}
use Rattle.mtc_io.specs.declared.sink.Sink.{Ghosts as Sinks}
use Rattle.mtc_room.specs.declared.room.Room.{Ghosts as Rooms}
use Rattle.mtc_words.specs.Words.{command_of}
use Rattle.mtc_command.specs.Answers.{tiles_name}
use Rattle.mtc_command.specs.Endings.{IsNamed}
use Rattle.mtc_command.specs.Made.{HasKept, Journaled, Leaves, appended, device_contents, reads}
use Rattle.mtc_command.specs.Made.{started, untouched}
use Rattle.mtc_command.specs.Valid.{LeavesValid}
use Rattle.mtc_command.proofs.Beside.{plain_end}
use Rattle.mtc_command.specs.Served.{IsOther, Journals, done_with}
use Rattle.mtc_room.proofs.Places.{ends_alike}
use Rattle.mtc_command.specs.Stored.{KeepsBoth, LeavesBoth, StoresBoth}
use Rattle.mtc_command.proofs.Made.{OnlyNow, ReadsCrashState}
use Rattle.mtc_command.proofs.Served.{other_both}
use Rattle.mtc_laws.specs.TileLaws.{HasPartyTiles}
use Rattle.party_history.specs.Rules.{AreRecords}
use Rattle.mtc_top.specs.Facts.{Facts, facts}
use Rattle.mtc_laws.proofs.Beside.{IsOwn, journal_own, none_beside}
use Rattle.mtc_laws.proofs.Commands.{spoken_records}
use Rattle.mtc_laws.proofs.Leaves.{IsDoneAt, Knows, contents_crash_state, done_alike}
use Rattle.mtc_laws.proofs.Leaves.{empty_before, file_bytes, find_name}
use Rattle.mtc_laws.proofs.Leaves.{found}
use Rattle.mtc_laws.proofs.Leaves.{knows, leaves, left_valid, may_append, of_each, one_longer}
use Rattle.mtc_laws.proofs.Leaves.{reported, serves}
use Rattle.mtc_laws.proofs.Opened.{Finds, SpokenKeeps, spoken_keeps}
use Rattle.mtc_laws.proofs.TilesBeside.{AreReadOrOther, OnlyReadsTiles, StoresTiles, find_beside}
use Rattle.mtc_laws.proofs.TilesBeside.{named_among, no_cosigner_log, no_cosigner_mirror}
use Rattle.mtc_laws.proofs.TilesBeside.{tiles_named, tiles_no_journal, tiles_other}
use Rattle.mtc_top.specs.Executions.{program, Run}
use Rattle.mtc_laws.specs.RunLaws.{AreAmong}
use Rattle.mtc_laws.proofs.Aliases.{IsRun, crash_states_in}
use Rattle.mtc_laws.proofs.Aliases.{ModelsFiles}

-- a run that isn't about the journal leaves nothing new of it
pub still_kept : (Valid : List Text → Type 0) (broken heard : Bool) (did : Journaled)
    (before now : CrashStates) → did ≡ untouched
    → Happens Valid (event_with broken heard did) before now → NoNew before now
still_kept Valid true heard did before now is happens =
    elim (subst (λ (d : Journaled). Happens Valid (event_with true heard d) before now) is
    happens) [
      | inl kept ↦ kept
      | inr kept ↦ kept
    ]
still_kept Valid false heard did before now is happens =
    subst (λ (d : Journaled). Happens Valid (event_with false heard d) before now) is happens

-- The tiles were only read: they go with the record of a log.
module _ (goes : List Text → Text → Type 0) (now before after : CrashStates)
    (kept : NoNew before after) where
  -- the tiles go with a record that is added
  abbrev Continues : Journaled → Type 0
  Continues untouched = Unit {0}
  Continues (reads list) = Unit {0}
  Continues (appended list body) = (c : Text) → now c → Represents c (list ++ body ∷ [])
      → AllGo goes (list ++ body ∷ []) after
  Continues (started body) = Unit {0}

  read_left : (did : Journaled) → Continues did
      → LeavesTiles goes (λ list body. ⊥) stored did before now after
  read_left untouched on = kept
  read_left (reads list) on = λ all c at. all c (kept c at)
  read_left (appended list body) on =
      record
      { keeps = λ all c at. all c (kept c at); following = λ all c at stands. on c at stands }
  read_left (started body) on = kept

-- what is left of a journal and of the file of its tiles, by their devices before and now
abbrev pub AllAt : {D : Type 0} → HashFunction → Disks D → Bool → Journaled → Option D → Option D
    → Option D → Option D → Type 0
AllAt h disks false d x x' y y' = Done (AreRecords h) d (states_at disks x) (states_at disks x')
    × (LeavesTiles (HasPartyTiles h) (λ list body. ⊥) stored d (states_at disks y)
    (states_at disks x') (states_at disks y') × Unit {0})
AllAt h disks true d x x' y y' = (NoNew (states_at disks x) (states_at disks x')
    × (NoNew (states_at disks y) (states_at disks y') × Unit {0}))
    ⊎ (HalfDone (AreRecords h) d (states_at disks x) (states_at disks x')
    × (LeavesTiles (HasPartyTiles h) (λ list body. ⊥) stored d (states_at disks y)
    (states_at disks x') (states_at disks y') × Unit {0}))

module _ {R S D O E : Type 0} (h : HashFunction) (rooms : Rooms R S D) (disks : Disks D)
    (outs : Sinks O) (errs : Sinks E) (crash_state : ReadsCrashState disks) (only : OnlyNow disks)
    (contents : ModelsFiles rooms disks)
    (bytes : (d : D) (b : List ℕ) → disks.contents d ≡ Some b → IsBytes b) where
  module _ (name : Text) (own : IsOwn name) (old : R) (run : Run R O E)
      (is_modelled : rooms.is_modelled old) (is_run : IsRun h rooms disks outs errs old run) where
    abbrev asked : Facts
    asked = facts h (command_of run.words)

    abbrev keeps : SpokenKeeps h (AreRecords h) (command_of run.words)
    keeps = spoken_records h (command_of run.words)

    abbrev beside : Text
    beside = tiles_name name

    abbrev js : Journals
    js = (program h rooms disks outs errs).journals old run

    abbrev did : Journaled
    did = done_to rooms.leads_to js name

    abbrev heard : Bool
    heard = heard_of (program h rooms disks outs errs) run

    abbrev broken : Bool
    broken = broke_off (program h rooms disks outs errs) run

    abbrev Before : CrashStates
    Before = crash_states_in h rooms disks outs errs old name

    abbrev Now : CrashStates
    Now = crash_states_in h rooms disks outs errs run.room name

    abbrev TilesBefore : CrashStates
    TilesBefore = crash_states_in h rooms disks outs errs old beside

    abbrev TilesNow : CrashStates
    TilesNow = crash_states_in h rooms disks outs errs run.room beside

    abbrev KnowsOf : Journaled → Type 0
    KnowsOf =
        Knows h rooms disks outs errs crash_state only contents bytes name old run is_modelled
        is_run
        (AreRecords h) keeps

    abbrev Both : Journaled → Type 0
    Both d = LeavesBoth asked.goes asked.Valid rooms disks old run.room name d

    abbrev Left : Journaled → Type 0
    Left d = LeavesTiles (HasPartyTiles h) (λ list body. ⊥) stored d TilesBefore Now TilesNow

    abbrev All : Bool → Journaled → Type 0
    All broken d = AllAt h disks broken d (rooms.device old name) (rooms.device run.room name)
        (rooms.device old beside) (rooms.device run.room beside)

    happens : Happens (AreRecords h) (event_with broken heard did) Before Now
    happens =
        (leaves h rooms disks outs errs crash_state only contents bytes name old run is_modelled
        is_run (AreRecords h) keeps
        (none_beside rooms.leads_to h (command_of run.words) name own)).leads.happens

    -- ---- a log or a mirror, with the file of its tiles

    -- a run that came to its end and left nothing new has added nothing
    not_added : (list : List Text) (body : Text) → KnowsOf (appended list body)
        → Done (AreRecords h) (appended list body) Before Now
        → device_contents disks (rooms.device run.room name)
        ≡ device_contents disks (rooms.device old name) → ⊥
    not_added list body known done kept =
        let is = known.finds in
        one_longer list body (one_list is.bytes list (list ++ body ∷ []) is.stands
        (done.1 is.bytes
        (contents_crash_state disks (rooms.device run.room name) is.bytes crash_state
        (kept
        ∙ reported h rooms disks outs errs crash_state only contents bytes name old run
        is_modelled is_run (AreRecords h) keeps is.bytes is.there))))

    kept_left : (d : Journaled) → KnowsOf d → Done (AreRecords h) d Before Now
        → KeepsBoth asked.goes asked.Valid rooms disks old run.room name → Left d
    kept_left untouched known done kept = kept.beside.crash_states.now_is
    kept_left (reads list) known done kept =
        λ all c at. all c (kept.beside.crash_states.now_is c at)
    kept_left (appended list body) known done kept =
        absurd (not_added list body known done kept.contents)
    kept_left (started body) known done kept = kept.beside.crash_states.now_is

    half_left : (d : Journaled) → KnowsOf d
        → NoNew Before Now ⊎ HalfDone (AreRecords h) d Before Now
        → StoresBoth asked.goes asked.Valid d Now TilesBefore TilesNow
        → HalfDone (AreRecords h) d Before Now
    half_left untouched known is began = elim is [ inl kept ↦ kept | inr kept ↦ kept ]
    half_left (reads list) known is began = (
      found h rooms disks outs errs crash_state only contents bytes name old run is_modelled is_run
          (AreRecords h) keeps list known.finds,
      began.stands,
    )
    half_left (appended list body) known is began = (
      may_append h rooms disks outs errs crash_state only contents bytes name old run is_modelled
          is_run
          (AreRecords h) keeps list body known.finds
          (spoken_keeps h (AreRecords h) (command_of run.words) keeps (list ++ body ∷ [])
          began.valid),
      began.stands,
    )
    half_left (started body) known is began =
        empty_before h rooms disks outs errs crash_state only contents bytes name old run
        is_modelled is_run
        (AreRecords h) keeps body known.is_new

    -- what goes with the records by their kind are the tiles of these
    tiles_left : (d : Journaled) (tiles : StoresTiles h (command_of run.words) name)
        → Finds asked.Valid (rooms.file old name) d
        → StoresBoth asked.goes asked.Valid d Now TilesBefore TilesNow → Left d
    tiles_left untouched tiles finds both = both.left
    tiles_left (reads list) tiles finds both = λ all t at. tiles.goes list t finds.valid
        (both.left (λ u there. tiles.back list u (all u there)) t at)
    tiles_left (appended list body) tiles finds both = record {
      keeps = λ all t at. tiles.goes list t finds.valid
          (both.left.keeps (λ u there. tiles.back list u (all u there)) t at);
      following = λ all c there stands t at. tiles.goes (list ++ body ∷ []) t both.valid
          (both.left.following (λ u there'. tiles.back list u (all u there')) c there stands t at);
    }
    tiles_left (started body) tiles finds both = both.left

    both_left : (tiles : StoresTiles h (command_of run.words) name) (broken : Bool)
        (d : Journaled) → Finds asked.Valid (rooms.file old name) d → KnowsOf d
        → Happens (AreRecords h) (event_with broken heard d) Before Now → Both d → All broken d
    both_left tiles false d finds known is both = elim both [
      | inl kept ↦ (is, (kept_left d known is kept, tt))
      | inr began ↦ (is, (tiles_left d tiles finds began, tt))
    ]
    both_left tiles true d finds known is both = elim both [
      | inl kept ↦ inl (kept.journal.crash_states.now_is, (kept.beside.crash_states.now_is, tt))
      | inr began ↦ inr (half_left d known is began, (tiles_left d tiles finds began, tt))
    ]

    -- ---- any other journal, or none

    -- nothing is left of a file at another place than each of those of the command
    other_still : IsOther rooms.leads_to asked.besides beside → NoNew TilesBefore TilesNow
    other_still other c at = subst (λ (x : Option D). states_at disks x c)
        (is_run.back.others beside (other_both rooms.leads_to asked.besides asked.journals beside
        other (tiles_no_journal rooms.leads_to h run.words name))).disk at

    -- nor of one that it only reads
    read_still : AreReadOrOther rooms.leads_to beside asked.only_reads asked.besides
        → NoNew TilesBefore TilesNow
    read_still each = elim (find_beside rooms.leads_to beside asked.only_reads asked.besides
        each) [
          | inl other ↦ other_still other
          | inr found ↦
              (let kept = (of_each (λ n d. Leaves disks (HasKept d) (rooms.device old n)
              (rooms.device run.room n)) (done_with asked.only_reads []) found.0 untouched
              (is_run.only_read is_modelled) (named_among asked.only_reads found.0 found.1.0)) in
              subst (λ (x : Option D). NoNew (states_at disks x) TilesNow)
              (contents.1 old found.0 beside is_modelled found.1.1)
              (subst (λ (x : Option D). NoNew (states_at disks (rooms.device old found.0))
              (states_at disks x)) (contents.1 run.room found.0 beside
              (is_run.back.is_modelled is_modelled) found.1.1) kept.crash_states.now_is))
        ]

    module _ (still_tiles : NoNew TilesBefore TilesNow) where
      alone_left : (broken : Bool) (d : Journaled)
          → Continues (HasPartyTiles h) Now TilesBefore TilesNow still_tiles d
          → Happens (AreRecords h) (event_with broken heard d) Before Now → All broken d
      alone_left false d on is = (
        is,
        (read_left (HasPartyTiles h) Now TilesBefore TilesNow still_tiles d on, tt),
      )
      alone_left true d on is = elim is [
        | inl kept ↦ inl (kept, (still_tiles, tt))
        | inr half ↦ inr (
          half,
          (read_left (HasPartyTiles h) Now TilesBefore TilesNow still_tiles d on, tt),
        )
      ]

      -- a record is added to the journal of a cosigner
      cosigner_left : (broken : Bool) (list : List Text) (body : Text)
          → KnowsOf (appended list body)
          → ((more : List Text) → asked.Valid more → IsOk (cosigner_of h more))
          → LeavesValid rooms disks asked.Valid old run.room name (appended list body)
          → Happens (AreRecords h) (event_with broken heard (appended list body)) Before Now
          → All broken (appended list body)
      cosigner_left broken list body known cosigner (inr adds) is =
          let is_cosigner = cosigner (list ++ body ∷ []) adds in
          alone_left broken (appended list body) (λ c at stands t there. (
            λ s made. absurd (no_cosigner_log h (list ++ body ∷ []) s is_cosigner made),
            λ m made. absurd (no_cosigner_mirror h (list ++ body ∷ []) m is_cosigner made),
          )) is
      cosigner_left false list body known cosigner (inl kept) is =
          absurd (not_added list body known is kept.1)
      cosigner_left true list body known cosigner (inl kept) is =
          inl (kept.0.crash_states.now_is, (still_tiles, tt))

      read_leaves : (d : Journaled)
          → OnlyReadsTiles rooms.leads_to h (command_of run.words) name d → KnowsOf d
          → LeavesValid rooms disks asked.Valid old run.room name d
          → Happens (AreRecords h) (event_with broken heard d) Before Now → All broken d
      read_leaves untouched tiles known valid is = alone_left broken untouched tt is
      read_leaves (reads list) tiles known valid is = alone_left broken (reads list) tt is
      read_leaves (appended list body) tiles known valid is =
          cosigner_left broken list body known (tiles.adds list body refl) valid is
      read_leaves (started body) tiles known valid is = alone_left broken (started body) tt is

      untouched_on : (d : Journaled) → d ≡ untouched
          → Continues (HasPartyTiles h) Now TilesBefore TilesNow still_tiles d
      untouched_on untouched is = tt
      untouched_on (reads list) is = tt
      untouched_on (appended list body) is =
          let wrong : appended list body ≡ untouched = is in absurd cc
      untouched_on (started body) is = tt

    -- it isn't about the journal
    pub idle_leaves : IsOther rooms.leads_to asked.journals name → did ≡ untouched → All broken did
    idle_leaves other is =
        let still = other_still (tiles_other rooms.leads_to h (command_of run.words) name other) in
        alone_left still broken did (untouched_on still did is) happens

    -- it works on the journal of this name
    pub named_leaves : AreAmong js name did → All broken did
    named_leaves among =
        let known = knows h rooms disks outs errs crash_state only contents bytes name old run
        is_modelled is_run (AreRecords h) keeps did among in
        let valid = left_valid h rooms disks outs errs crash_state only contents bytes name old run
        is_modelled is_run (AreRecords h) keeps did among in
        elim (tiles_named rooms.leads_to h (rooms.file old) (λ n b is. file_bytes disks
        (rooms.file old n) (rooms.device old n) b bytes (contents.0 old n is_modelled) is)
        (command_of run.words) name did among) [
          | inl tiles ↦ both_left tiles broken did (knows h rooms disks outs errs crash_state only
              contents bytes name old run is_modelled is_run asked.Valid tiles.keeps did
              among).finds known happens
              (of_each (λ n d. IsNamed asked.besides (tiles_name n)
              → LeavesBoth asked.goes asked.Valid rooms disks old run.room n d) js name did
              (is_run.stores is_modelled) among tiles.named)
          | inr tiles ↦ read_leaves (read_still tiles.others) did tiles known valid happens
        ]

  module _ (name : Text) (own : IsOwn name) (old : R) (run : Run R O E)
      (is_modelled : rooms.is_modelled old) (is_run : IsRun h rooms disks outs errs old run) where
    abbrev names : List Text
    names = (facts h (command_of run.words)).journals

    abbrev dids : List Journaled
    dids = ((facts h (command_of run.words)).outcome (rooms.file old)).journals

    abbrev did_at : Text → Journaled
    did_at n = done_to rooms.leads_to (done_with names dids) n

    abbrev broke : Bool
    broke = broke_off (program h rooms disks outs errs) run

    abbrev Carries : Journaled → Text → Text → Text → Text → Type 0
    Carries d n n' m m' = AllAt h disks broke d (rooms.device old n) (rooms.device run.room n')
        (rooms.device old m) (rooms.device run.room m')

    -- it works on the journal at the place of this name
    carried : IsDoneAt rooms.leads_to (done_with names dids) name (did_at name)
        → Carries (did_at name) name name (tiles_name name) (tiles_name name)
    carried found =
        let n = found.0 in
        let same = found.1.0 in
        let tiles = ends_alike rooms.leads_to (codes ".tiles") plain_end n name same in
        let alike = done_alike rooms.leads_to (done_with names dids) n name same in
        let later = is_run.back.is_modelled is_modelled in
        let among = subst (λ (d : Journaled). AreAmong (done_with names dids) n d) (sym alike)
        found.1.1 in
        subst (λ (y : Option D). AllAt h disks broke (did_at name) (rooms.device old name)
        (rooms.device run.room name) (rooms.device old (tiles_name name)) y)
        (contents.1 run.room (tiles_name n) (tiles_name name) later tiles)
        (subst (λ (y : Option D). AllAt h disks broke (did_at name) (rooms.device old name)
        (rooms.device run.room name) y (rooms.device run.room (tiles_name n)))
        (contents.1 old (tiles_name n) (tiles_name name) is_modelled tiles)
        (subst (λ (x : Option D). AllAt h disks broke (did_at name) (rooms.device old name) x
        (rooms.device old (tiles_name n)) (rooms.device run.room (tiles_name n)))
        (contents.1 run.room n name later same)
        (subst (λ (x : Option D). AllAt h disks broke (did_at name) x (rooms.device run.room n)
        (rooms.device old (tiles_name n)) (rooms.device run.room (tiles_name n)))
        (contents.1 old n name is_modelled same)
        (subst (λ (d : Journaled). Carries d n n (tiles_name n) (tiles_name n)) alike
        (named_leaves n (journal_own h run.words dids n (did_at n) among) old run is_modelled is_run
        among)))))

    pub log_leaves : Carries (did_at name) name name (tiles_name name) (tiles_name name)
    log_leaves = elim (find_name rooms.leads_to names dids name) [
      | inl none ↦ idle_leaves name own old run is_modelled is_run none.0 none.1
      | inr found ↦ carried found
    ]

    as_all : (broken : Bool) (d : Journaled) → AllAt h disks broken d (rooms.device old name)
        (rooms.device run.room name) (rooms.device old (tiles_name name))
        (rooms.device run.room (tiles_name name))
        → LeavesAll broken (journal_work (AreRecords h) name d
        ∷ tiles_work (HasPartyTiles h) (λ list body. ⊥) name (tiles_name name) d stored ∷ [])
        (all_states (program h rooms disks outs errs) old)
        (all_states (program h rooms disks outs errs) run.room)
    as_all false d is = is
    as_all true d is = is

    pub serves_so : LeavesAll broke (journal_work (AreRecords h) name (did_at name)
        ∷ tiles_work (HasPartyTiles h) (λ list body. ⊥) name (tiles_name name) (did_at name) stored
        ∷ []) (all_states (program h rooms disks outs errs) old)
        (all_states (program h rooms disks outs errs) run.room)
    serves_so = as_all broke (did_at name) log_leaves

  -- runs leave of both files what they have to leave
  pub serves_log : (name : Text) → IsOwn name → ServesLog (program h rooms disks outs errs)
      (HasPartyTiles h) (λ list body. ⊥) (AreRecords h) name (tiles_name name)
      (λ old is_run. stored)
  serves_log name own = record {
    rooms = (serves h rooms disks outs errs crash_state only contents bytes name own).rooms;
    leaves = λ old run is_modelled is_run. serves_so name own old run is_modelled is_run;
  }
