-- A command with a file beside its journal: from the devices that were opened to the file system.
use Rattle.std.proofs.Common.{◌≡◌, ◌≢◌, ◌≤◌, inl, inr, ℕ, List, [], ◌∷◌, Option, None, Some}
use Rattle.std.proofs.Common.{IfSome, IsSome, subst, sym, ◌∙◌, refl, arith, codes, length}
use Rattle.std.specs.Option.{IsSomeAnd}
use Rattle.mtc_io.specs.Counts.{Rose}
use Rattle.disk_core.specs.declared.disk.Disk.{Ghosts}
use Rattle.disk_core.specs.Times.{OnlyReads}
use Rattle.disk_core.specs.Same.{SameDevice}
use Rattle.disk_core.proofs.Times.{nothing_read}
use Rattle.mtc_room.proofs.Places.{longer_place}
use Rattle.mtc_room.specs.Places.{place_of, split_name}
use Rattle.mtc_room.specs.Room.{OpensBytes, ModelsFile}
use Rattle.mtc_room.specs.declared.room.Room.{Ghosts as Rooms}
use Rattle.mtc_command.specs.Answers.{Ending, replied, room_failed, no_memory, IfReply, Reply}
use Rattle.mtc_command.specs.Answers.{status_of, IsEarly, tiles_name}
use Rattle.mtc_command.specs.Endings.{FailedOnly, FailsAt, IsNamed, LeftBy}
use Rattle.mtc_command.specs.Made.{HasKept, Leaves, ReadsAtMost, untouched}
use Rattle.mtc_command.specs.Served.{HasServedBeside, OnlyReadsBeside}
use Rattle.mtc_command.specs.Steps.{Outcome, held_in, with_file}
use Rattle.mtc_command.specs.Valid.{AddsValid, KeepsValid, ServesValidly, ServesValidlyTiled}
use Rattle.mtc_command.specs.Wanted.{Meets}
use Rattle.mtc_command.specs.Works.{HasFailedBeside, HasGiven, HasOpened}
use Rattle.mtc_command.specs.Works.{HasOpenedBeside, HasClosed}
use Rattle.mtc_command.specs.Works.{HasWorkedTiledOn, journaled_by}
use Rattle.mtc_command.proofs.Made.{OnlyNow, kept_of, left_kept, left_opened}
use Rattle.mtc_command.proofs.Made.{still}
use Rattle.mtc_command.proofs.Served.{reply_so, rose_since}
use Rattle.mtc_command.proofs.Valid.{contents_opened}
use Rattle.mtc_command.proofs.Works.{of_bytes, rose_with}

-- the end of the name of a file of tiles has no slash
pub plain_end : split_name (codes ".tiles") ≡ ([], codes ".tiles")
unfolding split_name
plain_end = refl

-- a longer name is of another place
pub longer_other : (leads_to : List ℕ → List ℕ) (name : List ℕ)
    → place_of leads_to name ≢ place_of leads_to (tiles_name name)
longer_other leads_to name same =
    let six : length (codes ".tiles") ≡ 6 = refl in
    longer_place leads_to (codes ".tiles") plain_end name (omega (arith, six)) same

-- more failures may follow
pub rose_on : (before count more : ℕ) → Rose before count → count ≤ more → Rose before more
rose_on before count more rose later = elim rose [
  | inl rises ↦ inl (omega (arith, rises, later))
  | inr last ↦ inr (omega (arith, last, later))
]

-- a device that was opened has the bytes of its file, and none if it was made
pub held_as : (file now contents : Option (List ℕ)) → OpensBytes now contents
    → (IsSome file → now ≡ file) → (file ≡ None → now ≡ Some [])
    → contents ≡ Some (held_in file)
held_as None now contents opens kept made = opens.same ∙ made refl
held_as (Some bytes) now contents opens kept made = opens.same ∙ kept refl

-- The device of the journal was opened, and then that of its tiles.
module _ {R S D : Type 0} (rooms : Rooms R S D) (g : Ghosts D) (name : List ℕ)
    (old mid both : R) (d e : D) (opened : HasOpened rooms g name old mid d)
    (beside : HasOpenedBeside rooms g (tiles_name name) mid both e) where
  -- the bytes that it has are what the file held before
  pub held_is : rooms.is_modelled old
      → g.contents e ≡ Some (held_in (rooms.file old (tiles_name name)))
  held_is t =
      let is_modelled = opened.is_modelled t in
      let stays = (opened.stay (tiles_name name)).bytes in
      held_as (rooms.file old (tiles_name name)) (rooms.file both (tiles_name name)) (g.contents e)
      (beside.bytes is_modelled)
      (λ there. (beside.kept is_modelled (subst IsSome (sym stays) there)).bytes ∙ stays)
      (λ none. beside.made is_modelled (stays ∙ none))

  pub stays_beside : (rooms.file both name ≡ rooms.file old name)
      × (rooms.device both name ≡ rooms.device old name)
  stays_beside =
      let other = beside.others name (longer_other rooms.leads_to name) in
      (other.bytes ∙ (opened.stay name).bytes, other.disk ∙ (opened.stay name).disk)

-- the file system failed if one of the devices did
failed_at : (ending : Ending) (F B Fault : Type 0) (file beside : List ℕ) (files : List (List ℕ))
    → IsNamed files file → IsNamed files beside → (F → Fault) → (B → Fault)
    → FailsAt F file B beside ending → FailedOnly Fault files ending
failed_at (replied reply) F B Fault file beside files among too so more is = tt
failed_at (room_failed at) F B Fault file beside files among too so more is = elim is [
  | inl first ↦ (so first.1, subst (IsNamed files) (sym first.0) among)
  | inr second ↦ (more second.1, subst (IsNamed files) (sym second.0) too)
]
failed_at no_memory F B Fault file beside files among too so more is = tt

-- a fact of the reply under a premise
where_modelled : (Models : Type 0) (ending : Ending) (P : Reply → Type 0)
    → (Models → IfReply ending P)
    → IfReply ending (λ reply. Models → P reply)
where_modelled Models (replied reply) P is = is
where_modelled Models (room_failed file) P is = tt
where_modelled Models no_memory P is = tt

-- Both devices were worked on and closed, that of the journal last.
module _ {R S D : Type 0} (rooms : Rooms R S D) (g : Ghosts D) (name : List ℕ)
    (files : List (List ℕ)) (says : List ℕ → List ℕ → Outcome) (old mid both kept new : R)
    (d d' e e' : D) (ending : Ending) (opened : HasOpened rooms g name old mid d)
    (opened_beside : HasOpenedBeside rooms g (tiles_name name) mid both e)
    (closed_beside : HasClosed rooms g (tiles_name name) both kept e')
    (closed : HasClosed rooms g name kept new d') where
  abbrev held : List ℕ
  held = held_in (rooms.file old (tiles_name name))

  abbrev wanted : Outcome
  wanted = with_file name (rooms.file old name) (λ bytes. says bytes held)

  through : rooms.is_modelled old → rooms.is_modelled kept
  through t = closed_beside.is_modelled (opened_beside.is_modelled (opened.is_modelled t))

  stays_kept : rooms.file kept name ≡ rooms.file old name
  stays_kept =
      let stays = stays_beside rooms g name old mid both d e opened opened_beside in
      (closed_beside.others name (longer_other rooms.leads_to name)).bytes ∙ stays.0

  pub put_back : rooms.is_modelled old → IsSomeAnd (rooms.device new name) (λ x. SameDevice g d' x)
  put_back t = closed.device (through t) (subst IsSome (sym stays_kept) (opened.bytes t).there)

  no_new : rooms.is_modelled old → rooms.file old name ≡ None → rooms.file new name ≡ None
  no_new t none = closed.none (through t) (stays_kept ∙ none)

  fault_tiled : IsNamed files name → IsNamed files (tiles_name name)
      → FailsAt (Rose (g.faults d) (g.faults d')) name (Rose (g.faults e) (g.faults e'))
      (tiles_name name) ending
      → FailedOnly (Rose (rooms.faults old) (rooms.faults new)) files ending
  fault_tiled among among_tiles fails =
      failed_at ending _ _ _ name (tiles_name name) files among among_tiles
      (λ rose. rose_since (rooms.faults old) (rooms.faults kept) (rooms.faults new)
      (omega (arith, closed_beside.count, opened_beside.fine, opened.fine))
      (subst (Rose (rooms.faults kept)) (sym closed.count)
      (rose_with (rooms.faults kept) (g.faults d')
      (subst (λ n. Rose n (g.faults d')) opened.begins rose))))
      (λ rose. rose_on (rooms.faults old) (rooms.faults kept) (rooms.faults new)
      (subst (λ n. Rose n (rooms.faults kept)) (opened_beside.fine ∙ opened.fine)
      (subst (Rose (rooms.faults both)) (sym closed_beside.count)
      (rose_with (rooms.faults both) (g.faults e')
      (subst (λ n. Rose n (g.faults e')) opened_beside.begins rose))))
      (omega (arith, closed.count)))
      fails

  given_by : (contents : Option (List ℕ)) → contents ≡ Some held
      → IfSome contents (λ h. HasGiven g (λ bytes. says bytes h) d d' ending)
      → HasGiven g (λ bytes. says bytes held) d d' ending
  given_by contents is gives = subst (λ (o : Option (List ℕ)).
      IfSome o (λ h. HasGiven g (λ bytes. says bytes h) d d' ending)) is gives

  pub served_tiled : HasWorkedTiledOn g name says d d' e e' ending → IsNamed files name
      → IsNamed files (tiles_name name)
      → HasServedBeside rooms g files name (tiles_name name) wanted old new ending
  served_tiled worked among among_tiles = record {
    back = record {
      opened =
          omega (arith, opened.opened, opened_beside.opened, closed.opened, closed_beside.opened);
      later = omega (arith, opened.fine, opened_beside.fine, closed.count, closed_beside.count);
      is_modelled = λ t. closed.is_modelled (through t);
      others = λ other is. record {
        bytes = (closed.others other is.1.0).bytes ∙ (closed_beside.others other is.0).bytes
            ∙ (opened_beside.others other is.0).bytes ∙ (opened.stay other).bytes;
        disk = (closed.others other is.1.0).disk ∙ (closed_beside.others other is.0).disk
            ∙ (opened_beside.others other is.0).disk ∙ (opened.stay other).disk;
      };
    };
    ends = record {
      reply = where_modelled (rooms.is_modelled old) ending _ (λ t. reply_so ending _ _ (λ reply is.
          of_bytes (λ o. Meets o.answer reply) name _ _ (λ bytes. says bytes held) (opened.bytes t)
          is) (given_by (g.contents e)
          (held_is rooms g name old mid both d e opened opened_beside t)
          worked.gives).reply);
      words = λ bad. absurd bad;
      not_words = worked.ends.plain;
      fault = fault_tiled among among_tiles worked.ends.fault;
      early =
          where_modelled (rooms.is_modelled old) ending _ (λ t. reply_so ending _ _ (λ reply is. (
            of_bytes (λ o. journaled_by o ≡ untouched → IsEarly (status_of reply)) name _ _
                (λ bytes. says bytes held) (opened.bytes t) is,
            tt,
          )) (given_by (g.contents e) (held_is rooms g name old mid both d e opened opened_beside t)
          worked.gives).early);
    };
    made = λ t. record {
      no_file = (λ on none. no_new t none, tt);
      unmade = λ memory. (λ none. no_new t none, tt);
      left = (
        left_opened g ending (journaled_by wanted) _ _ d d' (opened.device t) (put_back t)
            (of_bytes (λ o. Leaves g (LeftBy ending (journaled_by o)) (Some d) (Some d')) name _ _
            (λ bytes. says bytes held) (opened.bytes t)
            (given_by (g.contents e) (held_is rooms g name old mid both d e opened opened_beside t)
            worked.gives).left),
        tt,
      );
    };
  }

  valid_by : (Valid : List (List ℕ) → Type 0) (contents : Option (List ℕ)) → contents ≡ Some held
      → IfSome contents (λ h. ServesValidly g Valid (λ bytes. says bytes h) d d')
      → ServesValidly g Valid (λ bytes. says bytes held) d d'
  valid_by Valid contents is serves = subst (λ (o : Option (List ℕ)).
      IfSome o (λ h. ServesValidly g Valid (λ bytes. says bytes h) d d')) is serves

  pub valid_tiled : (Valid : List (List ℕ) → Type 0) → ServesValidlyTiled g Valid says d d' e
      → KeepsValid rooms g Valid (name ∷ []) wanted old new
  valid_tiled Valid serves = λ t. (
    elim (valid_by Valid (g.contents e)
        (held_is rooms g name old mid both d e opened opened_beside t) serves) [
          | inl only_reads ↦ inl (
            left_opened g no_memory (journaled_by wanted) _ _ d d' (opened.device t) (put_back t)
                (kept_of g d d' (journaled_by wanted) only_reads),
            contents_opened g _ _ d d' (opened.device t) (put_back t) only_reads.contents,
          )
          | inr adds ↦ inr (of_bytes (λ o. AddsValid Valid (journaled_by o)) name _ _
              (λ bytes. says bytes held) (opened.bytes t) adds)
        ],
    tt,
  )

-- what was read, or had no call
pub only_reads_of : {D : Type 0} (g : Ghosts D) (old new : D) → OnlyNow g → ReadsAtMost g old new
    → OnlyReads g old new
only_reads_of g old new only_now only = elim only [
  | inl same ↦ subst (OnlyReads g old) (sym same) (nothing_read g old (only_now old))
  | inr only_reads ↦ only_reads
]

-- The device of the tiles was only read.
module _ {R S D : Type 0} (rooms : Rooms R S D) (g : Ghosts D) where
  abbrev pub ModelsAll : Type 0
  ModelsAll = (m : R) (name : List ℕ) → rooms.is_modelled m
      → ModelsFile g.contents (rooms.file m name) (rooms.device m name)

  pub no_device : (file : Option (List ℕ)) (x : Option D) → ModelsFile g.contents file x
      → file ≡ None → x ≡ None
  no_device file None is_modelled none = refl
  no_device file (Some x) is_modelled none =
      let there = subst IsSome none is_modelled.1 in absurd cc

  -- a file that was made empty holds nothing
  made_empty : (x z : Option D) (e e' : D) → x ≡ None → OnlyReads g e e'
      → ((c : List ℕ) → g.may_leave e c → c ≡ []) → g.clock_at e ≡ 0
      → IsSomeAnd z (λ b. SameDevice g e' b) → Leaves g (HasKept untouched) x z
  made_empty x None e e' none only_reads only time put = absurd put
  made_empty x (Some b) e e' none only_reads only time put =
      subst (λ (o : Option D). Leaves g (HasKept untouched) o (Some b)) (sym none) (record {
        later = omega arith;
        crash_states = record {
          now_is = λ c left. only c (only_reads.crash c ((put.leaves c).0 left));
          since_is = λ c since. only c (only_reads.times.each c
              (subst (λ n. g.left_since e' n c) (sym time) ((put.left 0 c).0 since)));
        };
      })

  module _ (name : List ℕ) (old mid both kept new : R) (d d' e e' : D)
      (opened : HasOpened rooms g name old mid d)
      (opened_beside : HasOpenedBeside rooms g (tiles_name name) mid both e)
      (closed_beside : HasClosed rooms g (tiles_name name) both kept e')
      (closed : HasClosed rooms g name kept new d') where
    abbrev beside : List ℕ
    beside = tiles_name name

    pub put_beside : rooms.is_modelled old
        → IsSomeAnd (rooms.device new beside) (λ x. SameDevice g e' x)
    put_beside t =
        let other = closed.others beside (λ same. longer_other rooms.leads_to name (sym same)) in
        subst (λ (o : Option D). IsSomeAnd o (λ x. SameDevice g e' x)) (sym other.disk)
        (closed_beside.device (opened_beside.is_modelled (opened.is_modelled t))
        (opened_beside.bytes (opened.is_modelled t)).there)

    only_read_at : ModelsAll → OnlyReads g e e' → rooms.is_modelled old → (file : Option (List ℕ))
        → rooms.file old beside ≡ file
        → Leaves g (HasKept untouched) (rooms.device old beside) (rooms.device new beside)
    only_read_at all only_reads t None is =
        let stays = opened.stay beside in
        let is_modelled = opened.is_modelled t in
        made_empty (rooms.device old beside) (rooms.device new beside) e e'
        (no_device (rooms.file old beside) (rooms.device old beside) (all old beside t) is)
        only_reads
        (opened_beside.only is_modelled (stays.bytes ∙ is))
        (opened_beside.time is_modelled (stays.bytes ∙ is))
        (put_beside t)
    only_read_at all only_reads t (Some bytes) is =
        let stays = opened.stay beside in
        let is_modelled = opened.is_modelled t in
        let there : IsSome (rooms.file mid beside) = subst IsSome (sym (stays.bytes ∙ is)) refl in
        let same = (opened_beside.kept is_modelled there).disk ∙ stays.disk in
        left_opened g no_memory untouched _ _ e e'
        (subst (λ (o : Option D). IsSomeAnd o (λ x. SameDevice g x e)) same
        (opened_beside.device is_modelled))
        (put_beside t) (kept_of g e e' untouched only_reads)

    pub only_read_tiled : ModelsAll → OnlyReads g e e'
        → OnlyReadsBeside rooms g old new (tiles_name name)
    only_read_tiled all only_reads = λ t. only_read_at all only_reads t (rooms.file old beside) refl

-- The file system failed at the tiles, and the device of the journal was only read and closed.
module _ {R S D : Type 0} (rooms : Rooms R S D) (g : Ghosts D) (name : List ℕ)
    (old mid both new : R) (d d' : D) (opened : HasOpened rooms g name old mid d)
    (failed : HasFailedBeside rooms (tiles_name name) mid both)
    (closed : HasClosed rooms g name both new d') (only_reads : OnlyReads g d d') where
  stays_failed : (rooms.file both name ≡ rooms.file old name)
      × (rooms.device both name ≡ rooms.device old name)
  stays_failed =
      let other = failed.others name (longer_other rooms.leads_to name) in
      (other.bytes ∙ (opened.stay name).bytes, other.disk ∙ (opened.stay name).disk)

  pub put_failed : rooms.is_modelled old
      → IsSomeAnd (rooms.device new name) (λ x. SameDevice g d' x)
  put_failed t = closed.device (failed.is_modelled (opened.is_modelled t))
      (subst IsSome (sym stays_failed.0) (opened.bytes t).there)

  none_failed : rooms.is_modelled old → rooms.file old name ≡ None → rooms.file new name ≡ None
  none_failed t none =
      closed.none (failed.is_modelled (opened.is_modelled t)) (stays_failed.0 ∙ none)

  pub failed_tiled : (files : List (List ℕ)) (wanted : Outcome) → IsNamed files (tiles_name name)
      → HasServedBeside rooms g files name (tiles_name name) wanted old new
      (room_failed (tiles_name name))
  failed_tiled files wanted among = record {
    back = record {
      opened = omega (arith, opened.opened, failed.opened, closed.opened);
      later = omega (arith, opened.fine, failed.later, closed.count);
      is_modelled = λ t. closed.is_modelled (failed.is_modelled (opened.is_modelled t));
      others = λ other is. record {
        bytes = (closed.others other is.1.0).bytes ∙ (failed.others other is.0).bytes
            ∙ (opened.stay other).bytes;
        disk = (closed.others other is.1.0).disk ∙ (failed.others other is.0).disk
            ∙ (opened.stay other).disk;
      };
    };
    ends = record {
      reply = tt;
      words = λ bad. absurd bad;
      not_words = tt;
      fault = (
        rose_on (rooms.faults old) (rooms.faults both) (rooms.faults new)
            (subst (λ n. Rose n (rooms.faults both)) opened.fine failed.rose)
            (omega (arith, closed.count)),
        among,
      );
      early = tt;
    };
    made = λ t. record {
      no_file = (λ on none. none_failed t none, tt);
      unmade = λ memory. absurd cc;
      left = (
        left_opened g (room_failed (tiles_name name)) (journaled_by wanted) _ _ d d'
            (opened.device t)
            (put_failed t)
            (left_kept g (room_failed (tiles_name name)) (journaled_by wanted) (Some d) (Some d') tt
            (kept_of g d d' (journaled_by wanted) only_reads)),
        tt,
      );
    };
  }

  pub failed_valid : (Valid : List (List ℕ) → Type 0) (wanted : Outcome)
      → KeepsValid rooms g Valid (name ∷ []) wanted old new
  failed_valid Valid wanted = λ t. (
    inl (
      left_opened g no_memory (journaled_by wanted) _ _ d d' (opened.device t) (put_failed t)
          (kept_of g d d' (journaled_by wanted) only_reads),
      contents_opened g _ _ d d' (opened.device t) (put_failed t) only_reads.contents,
    ),
    tt,
  )

  pub failed_only_read : OnlyNow g → OnlyReadsBeside rooms g old new (tiles_name name)
  failed_only_read only_now = λ t. still g (rooms.device old (tiles_name name))
      (rooms.device new (tiles_name name)) untouched only_now
      ((closed.others (tiles_name name) (λ same. longer_other rooms.leads_to name (sym same))).disk
      ∙ failed.stays.disk ∙ (opened.stay (tiles_name name)).disk)
