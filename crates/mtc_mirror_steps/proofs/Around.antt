-- A command that opens a journal, then a second one with the file of its tiles, which it only
-- reads, and closes all: from the devices to what it has done.
use Rattle.std.proofs.Common.{◌≡◌, ◌≢◌, Bool, true, false, List, [], ◌∷◌, Option}
use Rattle.std.proofs.Common.{None, Some, IsSome, subst, sym, ◌∙◌, ap, refl, arith, true≢false}
use Rattle.std.specs.Option.{IsSomeAnd}
use Rattle.byte_formats.specs.Types.{Text}
use Rattle.mtc_io.specs.Counts.{Rose}
use Rattle.disk_core.specs.Same.{SameDevice}
use Rattle.disk_core.specs.Times.{OnlyReads}
use Rattle.disk_core.specs.declared.disk.Disk.{Ghosts}
use Rattle.mtc_room.proofs.Places.{one_place_is, one_place_of}
use Rattle.mtc_room.specs.Places.{is_one_place, place_of}
use Rattle.mtc_room.specs.Room.{ModelsFile}
use Rattle.mtc_room.specs.declared.room.Room.{Ghosts as Rooms}
use Rattle.mtc_tiled.specs.Headers.{IsNoJournal, SparesTiles}
use Rattle.mtc_command.specs.Answers.{Ending, IfReply, IsEarly, Reply, no_memory, replied}
use Rattle.mtc_command.specs.Answers.{room_failed, status_of, tiles_name}
use Rattle.mtc_command.specs.Endings.{FailedOnly, LeftBy}
use Rattle.mtc_command.specs.Made.{HasKept, Journaled, Leaves, Leaving, device_contents, untouched}
use Rattle.mtc_command.specs.Served.{ClosesAll, HasDone, OnlyReadsBeside, first_journaled}
use Rattle.mtc_command.specs.Served.{rest_journaled}
use Rattle.mtc_command.specs.Steps.{Outcome}
use Rattle.mtc_command.specs.Wanted.{Meets}
use Rattle.mtc_command.specs.Works.{HasClosed, HasOpened}
use Rattle.mtc_command.proofs.Beside.{ModelsAll, rose_on}
use Rattle.mtc_command.proofs.Made.{OnlyNow, kept_of, left_kept, left_opened, still}
use Rattle.mtc_command.proofs.Served.{reply_so, rose_since}
use Rattle.mtc_command.proofs.Valid.{contents_opened, gives_same}
use Rattle.mtc_command.proofs.Works.{rose_with}
use Rattle.mtc_tiled.proofs.OnlyRead.{only_read_kept, spared_kept}
use Rattle.mtc_mirror_steps.specs.ReadSecond.{HasOnlyRead, OnlyReadsJournal}

there_not : (file : Option Text) → IsSome file → file ≡ None → ⊥
there_not file there none = let wrong = subst IsSome none there in cc

-- a fact of the reply under a premise
pub in_models : (Models : Type 0) (ending : Ending) (P : Reply → Type 0)
    → (Models → IfReply ending P) → IfReply ending (λ reply. Models → P reply)
in_models Models (replied reply) P is = is
in_models Models (room_failed file) P is = tt
in_models Models no_memory P is = tt

-- names of one place have one device
abbrev pub OneDevice : {R S D : Type 0} → Rooms R S D → Type 0
OneDevice {R} rooms = (m : R) (one other : Text) → rooms.is_modelled m
    → place_of rooms.leads_to one ≡ place_of rooms.leads_to other
    → rooms.device m one ≡ rooms.device m other

-- two names are of one place or of two
pub one_place_or : (leads_to : Text → Text) (one other : Text) (P : Type 0)
    → (place_of leads_to one ≡ place_of leads_to other → P)
    → (place_of leads_to one ≢ place_of leads_to other → P) → P
one_place_or leads_to one other P same two = go (is_one_place leads_to one other) refl
  where
    go : (b : Bool) → is_one_place leads_to one other ≡ b → P
    go true is = same (one_place_is leads_to one other is)
    go false is =
        two (λ equal. true≢false (sym (one_place_of leads_to one other equal) ∙ is))

module _ {R S D : Type 0} (rooms : Rooms R S D) (g : Ghosts D) (all : ModelsAll rooms g)
    (one : OneDevice rooms) where
  -- the bytes of a device are those of the file
  file_by : (file : Option Text) (x : Option D) → ModelsFile g.contents file x
      → device_contents g x ≡ file
  file_by file None is = sym is
  file_by file (Some d) is = is.0

  pub file_of : (m : R) (name : Text) → rooms.is_modelled m
      → device_contents g (rooms.device m name) ≡ rooms.file m name
  file_of m name t = file_by (rooms.file m name) (rooms.device m name) (all m name t)

  -- names of one place have one file
  pub one_file : (m : R) (name other : Text) → rooms.is_modelled m
      → place_of rooms.leads_to name ≡ place_of rooms.leads_to other
      → rooms.file m name ≡ rooms.file m other
  one_file m name other t same = sym (file_of m name t)
      ∙ (ap (device_contents g) (one m name other t same) ∙ file_of m other t)

  -- a file whose device reads as before is as before
  pub same_file : (old new : R) (name : Text) → rooms.is_modelled old → rooms.is_modelled new
      → device_contents g (rooms.device new name) ≡ device_contents g (rooms.device old name)
      → rooms.file new name ≡ rooms.file old name
  same_file old new name t later same =
      sym (file_of new name later) ∙ (same ∙ file_of old name t)

  -- what was read was closed
  pub closed_read : (journal : Text) (old new : R) → ClosesAll rooms old new [] → OnlyNow g
      → HasOnlyRead rooms g journal old new
  closed_read journal old new read only_now = record {
    closes = record {
      opened = read.opened;
      later = read.later;
      is_modelled = read.is_modelled;
      others = λ name other. read.others name tt;
    };
    journal_stays = λ t. record {
      leaves = still g (rooms.device old journal) (rooms.device new journal) untouched only_now
          (read.others journal tt).disk;
      contents = ap (device_contents g) (read.others journal tt).disk;
    };
    only_read = only_read_kept rooms g (tiles_name journal) old new read only_now;
    spares = spared_kept rooms journal old new read;
  }

  -- nothing was opened of the second journal
  pub none_read : (journal : Text) (old : R) → OnlyNow g → HasOnlyRead rooms g journal old old
  none_read journal old only_now = closed_read journal old old (gives_same rooms old) only_now

  -- The first journal was opened, the second one read, and the first one closed.
  module _ (name second : Text) (old mid kept new : R) (d d' : D)
      (opened : HasOpened rooms g name old mid d)
      (inner : HasOnlyRead rooms g second mid kept)
      (closed : HasClosed rooms g name kept new d')
      (apart : place_of rooms.leads_to name ≢ place_of rooms.leads_to (tiles_name second)) where
    abbrev beside : Text
    beside = tiles_name second

    abbrev IsOnePlace : Type 0
    IsOnePlace = place_of rooms.leads_to name ≡ place_of rooms.leads_to second

    modelled_kept : rooms.is_modelled old → rooms.is_modelled kept
    modelled_kept t = inner.closes.is_modelled (opened.is_modelled t)

    modelled_new : rooms.is_modelled old → rooms.is_modelled new
    modelled_new t = closed.is_modelled (modelled_kept t)

    -- the first file, while the second one was read
    kept_file : rooms.is_modelled old → rooms.file kept name ≡ rooms.file mid name
    kept_file t = one_place_or rooms.leads_to name second
        (rooms.file kept name ≡ rooms.file mid name)
        (λ same. one_file kept name second (modelled_kept t) same
        ∙ (same_file mid kept second (opened.is_modelled t) (modelled_kept t)
        (inner.journal_stays (opened.is_modelled t)).contents
        ∙ sym (one_file mid name second (opened.is_modelled t) same)))
        (λ two. (inner.closes.others name (apart, (two, tt))).bytes)

    pub put_back : rooms.is_modelled old
        → IsSomeAnd (rooms.device new name) (λ x. SameDevice g d' x)
    put_back t = closed.device (modelled_kept t)
        (subst IsSome (sym (kept_file t ∙ (opened.stay name).bytes)) (opened.bytes t).there)

    -- a failure of the first device, or while the second journal was read
    pub rose_first : Rose (g.faults d) (g.faults d') → Rose (rooms.faults old) (rooms.faults new)
    rose_first rose = rose_since (rooms.faults old) (rooms.faults kept) (rooms.faults new)
        (omega (arith, opened.fine, inner.closes.later))
        (subst (Rose (rooms.faults kept)) (sym closed.count)
        (rose_with (rooms.faults kept) (g.faults d')
        (subst (λ n. Rose n (g.faults d')) opened.begins rose)))

    pub rose_inner : Rose (rooms.faults mid) (rooms.faults kept)
        → Rose (rooms.faults old) (rooms.faults new)
    rose_inner rose = rose_on (rooms.faults old) (rooms.faults kept) (rooms.faults new)
        (subst (λ n. Rose n (rooms.faults kept)) opened.fine rose) (omega (arith, closed.count))

    -- what is left of the first journal
    pub left_first : (ending : Ending) (did : Journaled) → rooms.is_modelled old
        → Leaves g (LeftBy ending did) (Some d) (Some d')
        → Leaves g (LeftBy ending did) (rooms.device old name) (rooms.device new name)
    left_first ending did t left = left_opened g ending did (rooms.device old name)
        (rooms.device new name) d d' (opened.device t) (put_back t) left

    -- of the second one, which is another
    second_apart : (How : Leaving) → (place_of rooms.leads_to name ≢ place_of rooms.leads_to second)
        → Leaves g How (rooms.device mid second) (rooms.device kept second)
        → Leaves g How (rooms.device old second) (rooms.device new second)
    second_apart How two left =
        let before = (opened.stay second).disk in
        let after = (closed.others second (λ same. two (sym same))).disk in
        subst (λ (x : Option D). Leaves g How x (rooms.device new second)) before
        (subst (λ (z : Option D). Leaves g How (rooms.device mid second) z) (sym after) left)

    -- or of one place with the first
    second_same : (How : Leaving) → rooms.is_modelled old → IsOnePlace
        → Leaves g How (rooms.device old name) (rooms.device new name)
        → Leaves g How (rooms.device old second) (rooms.device new second)
    second_same How t same left =
        subst (λ (x : Option D). Leaves g How x (rooms.device new second))
        (one old name second t same)
        (subst (λ (z : Option D). Leaves g How (rooms.device old name) z)
        (one new name second (modelled_new t) same) left)

    -- the first one was only read if it is the second
    module _ (reads : rooms.is_modelled old → IsOnePlace → OnlyReads g d d') where
      pub left_second : (ending : Ending) (did : Journaled) → rooms.is_modelled old
          → (IsOnePlace → IfReply ending (λ reply. did ≡ untouched))
          → ((place_of rooms.leads_to name ≢ place_of rooms.leads_to second)
          → Leaves g (LeftBy ending did) (rooms.device mid second) (rooms.device kept second))
          → Leaves g (LeftBy ending did) (rooms.device old second) (rooms.device new second)
      left_second ending did t not left = one_place_or rooms.leads_to name second
          (Leaves g (LeftBy ending did) (rooms.device old second) (rooms.device new second))
          (λ same. second_same (LeftBy ending did) t same (left_first ending did t
          (left_kept g ending did (Some d) (Some d') (not same)
          (kept_of g d d' did (reads t same)))))
          (λ two. second_apart (LeftBy ending did) two (left two))

      -- the second journal after all
      pub around_reads : rooms.is_modelled old → OnlyReadsJournal rooms g second old new
      around_reads t =
          let is = inner.journal_stays (opened.is_modelled t) in record {
            leaves = left_second no_memory untouched t (λ same. tt) (λ two. is.leaves);
            contents = one_place_or rooms.leads_to name second
                (device_contents g (rooms.device new second)
                ≡ device_contents g (rooms.device old second))
                (λ same. ap (device_contents g) (sym (one new name second (modelled_new t) same))
                ∙ (contents_opened g (rooms.device old name) (rooms.device new name) d d'
                (opened.device t) (put_back t) (reads t same).contents
                ∙ ap (device_contents g) (one old name second t same)))
                (λ two. ap (device_contents g)
                (closed.others second (λ same. two (sym same))).disk
                ∙ (is.contents ∙ ap (device_contents g) (opened.stay second).disk));
          }

      -- and the file of its tiles
      pub around_only_reads : OnlyReadsBeside rooms g old new beside
      around_only_reads t =
          subst (λ (x : Option D). Leaves g (HasKept untouched) x (rooms.device new beside))
          (opened.stay beside).disk
          (subst (λ (z : Option D). Leaves g (HasKept untouched) (rooms.device mid beside) z)
          (sym (closed.others beside (λ same. apart (sym same))).disk)
          (inner.only_read (opened.is_modelled t)))

      pub around_spares : SparesTiles rooms old new second
      around_spares t not =
          let stays = inner.spares (opened.is_modelled t)
          (subst IsNoJournal (sym (opened.stay second).bytes) not) in
          let after = closed.others beside (λ same. apart (sym same)) in
          record {
            bytes = after.bytes ∙ (stays.bytes ∙ (opened.stay beside).bytes);
            disk = after.disk ∙ (stays.disk ∙ (opened.stay beside).disk);
          }

      -- ---- what the command has done

      pub around_done : (files : List Text) (wanted : Outcome) (ending : Ending)
          → FailedOnly (Rose (rooms.faults old) (rooms.faults new)) files ending
          → IfReply ending (λ reply. status_of reply ≢ 1)
          → (rooms.is_modelled old → IfReply ending (λ reply. Meets wanted.answer reply))
          → (rooms.is_modelled old → IfReply ending (λ reply.
          (first_journaled wanted.journals ≡ untouched → IsEarly (status_of reply))
          × ((first_journaled (rest_journaled wanted.journals) ≡ untouched
          → IsEarly (status_of reply)) × Unit {0})))
          → (rooms.is_modelled old
          → Leaves g (LeftBy ending (first_journaled wanted.journals)) (Some d) (Some d'))
          → (rooms.is_modelled old → IsOnePlace
          → IfReply ending (λ reply. first_journaled (rest_journaled wanted.journals) ≡ untouched))
          → (rooms.is_modelled old
          → (place_of rooms.leads_to name ≢ place_of rooms.leads_to second)
          → Leaves g (LeftBy ending (first_journaled (rest_journaled wanted.journals)))
          (rooms.device mid second) (rooms.device kept second))
          → HasDone rooms g ⊥ files (name ∷ second ∷ []) (beside ∷ []) wanted old new ending
      around_done files wanted ending fault plain reply early first not second_left = record {
        back = record {
          opened = omega (arith, opened.opened, inner.closes.opened, closed.opened);
          later = omega (arith, opened.fine, inner.closes.later, closed.count);
          is_modelled = modelled_new;
          others = λ other is. record {
            bytes = (closed.others other is.1.0).bytes
                ∙ ((inner.closes.others other (is.0, is.1.1)).bytes ∙ (opened.stay other).bytes);
            disk = (closed.others other is.1.0).disk
                ∙ ((inner.closes.others other (is.0, is.1.1)).disk ∙ (opened.stay other).disk);
          };
        };
        ends = record {
          reply = in_models (rooms.is_modelled old) ending _ reply;
          words = λ bad. absurd bad;
          not_words = reply_so ending _ _ (λ r is one_status. is one_status) plain;
          fault = fault;
          early = in_models (rooms.is_modelled old) ending _ early;
        };
        made = λ t.
            let same = same_file old new second t (modelled_new t) (around_reads t).contents in
            record {
              no_file = (
                λ on none. absurd (there_not (rooms.file old name) (opened.bytes t).there none),
                (λ on none. same ∙ none, tt),
              );
              unmade = λ memory. (
                λ none. absurd (there_not (rooms.file old name) (opened.bytes t).there none),
                (λ none. same ∙ none, tt),
              );
              left = (
                left_first ending (first_journaled wanted.journals) t (first t),
                (
                  left_second ending (first_journaled (rest_journaled wanted.journals)) t (not t)
                      (second_left t),
                  tt,
                ),
              );
            };
      }
