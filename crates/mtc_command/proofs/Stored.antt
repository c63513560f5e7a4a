-- A journal and the file beside it, from the open devices to the file system.
use Rattle.std.proofs.Common.{◌≡◌, inl, inr, List, [], ◌∷◌, Option, None, Some, IfSome, IsSome}
use Rattle.std.proofs.Common.{option_map, subst, sym, refl, ap, ◌∙◌}
use Rattle.std.specs.Prelude.{option_and_then}
use Rattle.std.specs.Option.{IsSomeAnd}
use Rattle.std.proofs.lemmas.Option.{IfSome_then}
use Rattle.byte_formats.specs.Types.{Text}
use Rattle.disk_core.specs.Times.{OnlyReads}
use Rattle.disk_core.specs.Same.{SameDevice}
use Rattle.disk_core.specs.declared.disk.Disk.{Ghosts as Disks}
use Rattle.disk_core.proofs.Times.{only_read_on}
use Rattle.file_events.specs.Events.{CrashStates}
use Rattle.file_events.specs.Tiles.{LeavesTiles, stored}
use Rattle.file_events.specs.Worlds.{states_at}
use Rattle.journal_core.specs.Format.{Represents, records_of}
use Rattle.journal_core.specs.Words.{AllRepresent}
use Rattle.mtc_room.specs.declared.room.Room.{Ghosts as Rooms}
use Rattle.mtc_command.specs.Answers.{no_memory, tiles_name}
use Rattle.mtc_command.specs.Endings.{IsNamed}
use Rattle.mtc_command.specs.Made.{HasKept, IsOpen, Journaled, Leaves, appended, device_contents}
use Rattle.mtc_command.specs.Made.{reads, started, untouched}
use Rattle.mtc_command.specs.Served.{ClosesAll, OfEach, done_with}
use Rattle.mtc_command.specs.Steps.{Outcome, held_in, with_file}
use Rattle.mtc_command.specs.Stored.{HasStoredBoth, HasStoredOn, LeavesBoth}
use Rattle.mtc_command.specs.Stored.{MayRepresent, StoresBeside, StoresBoth}
use Rattle.mtc_command.specs.Works.{HasClosed, HasFailedBeside, HasOpened, HasOpenedBeside}
use Rattle.mtc_command.specs.Works.{journaled_by}
use Rattle.mtc_command.proofs.Beside.{ModelsAll, held_is, longer_other, no_device, only_read_tiled}
use Rattle.mtc_command.proofs.Beside.{failed_only_read, put_back, put_beside, put_failed}
use Rattle.mtc_command.proofs.Made.{OnlyNow, kept_of, left_opened, still}
use Rattle.mtc_command.proofs.Served.{each_is, each_so}
use Rattle.mtc_command.proofs.Valid.{contents_opened}
use Rattle.mtc_command.proofs.Works.{of_bytes, opened_at}

-- ---- crash states

may_through : (did : Journaled) (now now' : CrashStates) → ((c : Text) → now' c → now c)
    → MayRepresent did now → MayRepresent did now'
may_through untouched now now' less is = tt
may_through (reads list) now now' less is = λ c at. is c (less c at)
may_through (appended list body) now now' less is = λ c at. is c (less c at)
may_through (started body) now now' less is = tt

-- those of the journal may be exchanged for fewer, and those of the file beside it before for more,
-- and afterwards for fewer
module _ (goes : List Text → Text → Type 0) (Valid : List Text → Type 0)
    (n n' b b' a a' : CrashStates) (less : (c : Text) → n' c → n c)
    (more : (c : Text) → b c → b' c) (fewer : (c : Text) → a' c → a c) where
  left_through : (did : Journaled) → LeavesTiles goes (λ list body. ⊥) stored did b n a
      → LeavesTiles goes (λ list body. ⊥) stored did b' n' a'
  left_through untouched is = λ c at. more c (is c (fewer c at))
  left_through (reads list) is = λ all c at. is (λ t there. all t (more t there)) c (fewer c at)
  left_through (appended list body) is = record {
    keeps = λ all t at. is.keeps (λ u there. all u (more u there)) t (fewer t at);
    following = λ all c at stands t there.
        is.following (λ u was. all u (more u was)) c (less c at) stands t (fewer t there);
  }
  left_through (started body) is = λ c at. more c (is c (fewer c at))

  stores_through : (did : Journaled) → StoresBoth goes Valid did n b a
      → StoresBoth goes Valid did n' b' a'
  stores_through did is = record {
    valid = is.valid;
    stands = may_through did n n' less is.stands;
    left = left_through did is.left;
  }

-- ---- devices

module _ (goes : List Text → Text → Type 0) (Valid : List Text → Type 0) {D : Type 0}
    (g : Disks D) where
  read_at : (says : Text → Text → Outcome) (old new tiles tiles' : D) (held bytes : Option Text)
      → OnlyReads g old new → OnlyReads g tiles tiles'
      → IfSome held (λ h. IfSome bytes (λ b.
      HasStoredBoth goes Valid g (journaled_by (says b h)) old new tiles tiles'))
  read_at says old new tiles tiles' None bytes first second = tt
  read_at says old new tiles tiles' (Some h) None first second = tt
  read_at says old new tiles tiles' (Some h) (Some b) first second = inl (first, second)

  -- both were only read
  pub read_both : (says : Text → Text → Outcome) (old new tiles tiles' : D) → OnlyReads g old new
      → OnlyReads g tiles tiles' → HasStoredOn goes Valid g says old new tiles tiles'
  read_both says old new tiles tiles' first second =
      read_at says old new tiles tiles' (g.contents tiles) (g.contents old) first second

  -- The journal was opened, which only read the devices: mid, where its records were found.
  module _ (name : Text) (says : Text → Text → Outcome) (next : List Text → Outcome)
      (old mid new tiles tiles_mid tiles' : D) (first : OnlyReads g old mid)
      (second : OnlyReads g tiles tiles_mid) where
    abbrev list : Option (List Text)
    list = option_map records_of (g.contents mid)

    since_opened : (did : Journaled) → HasStoredBoth goes Valid g did mid new tiles_mid tiles'
        → HasStoredBoth goes Valid g did old new tiles tiles'
    since_opened did is = elim is [
      | inl only ↦ inl (
        only_read_on g old mid new first only.0,
        only_read_on g tiles tiles_mid tiles' second only.1,
      )
      | inr works ↦ inr (stores_through goes Valid (g.may_leave new) (g.may_leave new)
          (g.may_leave tiles_mid) (g.may_leave tiles) (g.may_leave tiles') (g.may_leave tiles')
          (λ c at. at) second.crash (λ c at. at) did works)
    ]

    stored_at : (x : Option Text) → g.contents tiles_mid ≡ x
        → IfSome x (λ held. IfSome (g.contents old) (λ b. IfSome list (λ l. says b held ≡ next l)))
        → IfSome (g.contents mid) (λ b. IfSome list (Represents b))
        → IfSome list (AllRepresent g mid)
        → IfSome (option_and_then (λ bytes. list) (g.contents tiles_mid)) (λ l. IsOpen g mid l
        → HasStoredBoth goes Valid g (journaled_by (next l)) mid new tiles_mid tiles')
        → IfSome x (λ held. IfSome (g.contents old) (λ b.
        HasStoredBoth goes Valid g (journaled_by (says b held)) old new tiles tiles'))
    stored_at None is found stands all work = tt
    stored_at (Some held) is found stands all work =
        opened_at g name (λ b. says b held) next old mid new
        (λ o. HasStoredBoth goes Valid g (journaled_by o) old new tiles tiles') (g.contents old)
        (g.contents mid) refl first.contents found stands all
        (IfSome_then list (subst (λ (o : Option Text). IfSome (option_and_then (λ bytes. list) o)
        (λ l. IsOpen g mid l
        → HasStoredBoth goes Valid g (journaled_by (next l)) mid new tiles_mid tiles')) is work)
        (λ l is_stored opened. since_opened (journaled_by (next l)) (is_stored opened)))

    pub stored_on : IfSome (g.contents tiles) (λ held. IfSome (g.contents old) (λ b.
        IfSome list (λ l. says b held ≡ next l)))
        → IfSome (g.contents mid) (λ b. IfSome list (Represents b))
        → IfSome list (AllRepresent g mid)
        → IfSome (option_and_then (λ bytes. list) (g.contents tiles_mid)) (λ l. IsOpen g mid l
        → HasStoredBoth goes Valid g (journaled_by (next l)) mid new tiles_mid tiles')
        → HasStoredOn goes Valid g says old new tiles tiles'
    stored_on = stored_at (g.contents tiles) second.contents

-- ---- the file system

module _ {D : Type 0} (g : Disks D) where
  -- what was closed leaves no more than the device that was worked on
  closed_less : (z : Option D) (e : D) → IsSomeAnd z (λ b. SameDevice g e b) → (c : Text)
      → states_at g z c → g.may_leave e c
  closed_less None e put c at = absurd put
  closed_less (Some b) e put c at = (put.leaves c).0 at

  -- what was opened leaves no more than its file
  opened_more : (x : Option D) (e : D) → IsSomeAnd x (λ a. SameDevice g a e) → (c : Text)
      → g.may_leave e c → states_at g x c
  opened_more None e out c at = absurd out
  opened_more (Some a) e out c at = (out.leaves c).0 at

  -- a file that was made empty leaves nothing
  made_more : (x : Option D) (e : D) → x ≡ None → ((c : Text) → g.may_leave e c → c ≡ [])
      → (c : Text) → g.may_leave e c → states_at g x c
  made_more x e none only c at = subst (λ (o : Option D). states_at g o c) (sym none) (only c at)

-- Both devices were worked on and closed, that of the journal last.
module _ (goes : List Text → Text → Type 0) (Valid : List Text → Type 0) {R S D : Type 0}
    (rooms : Rooms R S D) (g : Disks D) (name : Text) (says : Text → Text → Outcome)
    (old mid both kept new : R) (d d' e e' : D) (opened : HasOpened rooms g name old mid d)
    (opened_beside : HasOpenedBeside rooms g (tiles_name name) mid both e)
    (closed_beside : HasClosed rooms g (tiles_name name) both kept e')
    (closed : HasClosed rooms g name kept new d') (all : ModelsAll rooms g) where
  abbrev held : Text
  held = held_in (rooms.file old (tiles_name name))

  abbrev wanted : Outcome
  wanted = with_file name (rooms.file old name) (λ bytes. says bytes held)

  abbrev did : Journaled
  did = journaled_by wanted

  beside_at : rooms.is_modelled old → (file : Option Text) → rooms.file old (tiles_name name) ≡ file
      → (c : Text) → g.may_leave e c → states_at g (rooms.device old (tiles_name name)) c
  beside_at t None is =
      let stays = opened.stay (tiles_name name) in
      made_more g (rooms.device old (tiles_name name)) e
      (no_device rooms g (rooms.file old (tiles_name name)) (rooms.device old (tiles_name name))
      (all old (tiles_name name) t) is)
      (opened_beside.only (opened.is_modelled t) (stays.bytes ∙ is))
  beside_at t (Some bytes) is =
      let stays = opened.stay (tiles_name name) in
      let there : IsSome (rooms.file mid (tiles_name name))
      = subst IsSome (sym (stays.bytes ∙ is)) refl in
      let same = (opened_beside.kept (opened.is_modelled t) there).disk ∙ stays.disk in
      opened_more g (rooms.device old (tiles_name name)) e
      (subst (λ (o : Option D). IsSomeAnd o (λ x. SameDevice g x e)) same
      (opened_beside.device (opened.is_modelled t)))

  stored_by : (contents : Option Text) → contents ≡ Some held
      → IfSome contents (λ h. IfSome (g.contents d) (λ b.
      HasStoredBoth goes Valid g (journaled_by (says b h)) d d' e e'))
      → IfSome (g.contents d) (λ b.
      HasStoredBoth goes Valid g (journaled_by (says b held)) d d' e e')
  stored_by contents is stores = subst (λ (o : Option Text). IfSome o (λ h. IfSome (g.contents d)
      (λ b. HasStoredBoth goes Valid g (journaled_by (says b h)) d d' e e'))) is stores

  both_so : rooms.is_modelled old → HasStoredBoth goes Valid g did d d' e e'
      → LeavesBoth goes Valid rooms g old new name did
  both_so t is =
      let back = put_back rooms g name [] says old mid both kept new d d' e e' no_memory opened
      opened_beside closed_beside closed t in
      let beside = put_beside rooms g name old mid both kept new d d' e e' opened opened_beside
      closed_beside closed t in
      elim is [
        | inl only ↦ inl (record {
          journal = left_opened g no_memory untouched _ _ d d' (opened.device t) back
              (kept_of g d d' untouched only.0);
          contents = contents_opened g _ _ d d' (opened.device t) back only.0.contents;
          beside = only_read_tiled rooms g name old mid both kept new d d' e e' opened
              opened_beside closed_beside closed all only.1 t;
        })
        | inr works ↦ inr (stores_through goes Valid (g.may_leave d')
            (states_at g (rooms.device new name)) (g.may_leave e)
            (states_at g (rooms.device old (tiles_name name))) (g.may_leave e')
            (states_at g (rooms.device new (tiles_name name)))
            (closed_less g (rooms.device new name) d' back)
            (beside_at t (rooms.file old (tiles_name name)) refl)
            (closed_less g (rooms.device new (tiles_name name)) e' beside) did works)
      ]

  pub stored_tiled : HasStoredOn goes Valid g says d d' e e'
      → StoresBeside goes Valid rooms g old new (name ∷ []) (tiles_name name ∷ []) wanted
  stored_tiled stores = λ t. (
    λ named. both_so t (of_bytes (λ o. HasStoredBoth goes Valid g (journaled_by o) d d' e e') name
        _ _ (λ bytes. says bytes held) (opened.bytes t)
        (stored_by (g.contents e) (held_is rooms g name old mid both d e opened opened_beside t)
        stores)),
    tt,
  )

-- The file system failed at the file beside the journal, whose device was only read and closed.
module _ (goes : List Text → Text → Type 0) (Valid : List Text → Type 0) {R S D : Type 0}
    (rooms : Rooms R S D) (g : Disks D) (name : Text) (old mid both new : R) (d d' : D)
    (opened : HasOpened rooms g name old mid d)
    (failed : HasFailedBeside rooms (tiles_name name) mid both)
    (closed : HasClosed rooms g name both new d') (only_reads : OnlyReads g d d') where
  pub failed_stored : (wanted : Outcome) → OnlyNow g
      → StoresBeside goes Valid rooms g old new (name ∷ []) (tiles_name name ∷ []) wanted
  failed_stored wanted only_now = λ t. (
    λ named.
        let back =
        put_failed rooms g name old mid both new d d' opened failed closed only_reads t in
        inl (record {
          journal = left_opened g no_memory untouched _ _ d d' (opened.device t) back
              (kept_of g d d' untouched only_reads);
          contents = contents_opened g _ _ d d' (opened.device t) back only_reads.contents;
          beside = failed_only_read rooms g name old mid both new d d' opened failed closed
              only_reads only_now t;
        }),
    tt,
  )

module _ (goes : List Text → Text → Type 0) (Valid : List Text → Type 0) {R S D : Type 0}
    (rooms : Rooms R S D) (g : Disks D) where
  -- the device of the journal was only read and closed, and the other one not opened
  pub header_stored : (name : Text) (wanted : Outcome) (old mid new : R) (d d' : D)
      → HasOpened rooms g name old mid d → HasClosed rooms g name mid new d' → OnlyReads g d d'
      → OnlyNow g
      → StoresBeside goes Valid rooms g old new (name ∷ []) (tiles_name name ∷ []) wanted
  header_stored name wanted old mid new d d' opened closed only_reads only_now = λ t. (
    λ named.
        let back = closed.device (opened.is_modelled t)
        (subst IsSome (sym (opened.stay name).bytes) (opened.bytes t).there) in
        inl (record {
          journal = left_opened g no_memory untouched _ _ d d' (opened.device t) back
              (kept_of g d d' untouched only_reads);
          contents = contents_opened g _ _ d d' (opened.device t) back only_reads.contents;
          beside = still g (rooms.device old (tiles_name name))
              (rooms.device new (tiles_name name)) untouched only_now
              ((closed.others (tiles_name name)
              (λ same. longer_other rooms.leads_to name (sym same))).disk
              ∙ (opened.stay (tiles_name name)).disk);
        }),
    tt,
  )

  -- what was read was closed, and nothing else was done
  pub kept_stored : (names besides : List Text) (wanted : Outcome) (old new : R)
      → ClosesAll rooms old new [] → OnlyNow g
      → StoresBeside goes Valid rooms g old new names besides wanted
  kept_stored names besides wanted old new read only_now = λ t.
      each_is (λ name did. IsNamed besides (tiles_name name)
      → LeavesBoth goes Valid rooms g old new name did)
      (λ name did named. inl (record {
        journal = still g _ _ untouched only_now (read.others name tt).disk;
        contents = ap (device_contents g) (read.others name tt).disk;
        beside = still g _ _ untouched only_now (read.others (tiles_name name) tt).disk;
      }))
      (done_with names wanted.journals)

  since_read : (name : Text) (did : Journaled) (old mid new : R) → ClosesAll rooms old mid []
      → LeavesBoth goes Valid rooms g mid new name did
      → LeavesBoth goes Valid rooms g old new name did
  since_read name did old mid new read is =
      let journal = (read.others name tt).disk in
      let beside = (read.others (tiles_name name) tt).disk in
      elim is [
        | inl kept ↦ inl (record {
          journal = subst (λ (x : Option D). Leaves g (HasKept untouched) x
              (rooms.device new name)) journal kept.journal;
          contents = kept.contents ∙ ap (device_contents g) journal;
          beside = subst (λ (x : Option D). Leaves g (HasKept untouched) x
              (rooms.device new (tiles_name name))) beside kept.beside;
        })
        | inr works ↦ inr (subst (λ (x : Option D). StoresBoth goes Valid did
            (states_at g (rooms.device new name)) (states_at g x)
            (states_at g (rooms.device new (tiles_name name)))) beside works)
      ]

  -- what was read was closed, and then comes the rest of the command
  pub after_stored : (names besides : List Text) (wanted wanted' : Outcome) (old mid new : R)
      → ClosesAll rooms old mid [] → (rooms.is_modelled old → wanted' ≡ wanted)
      → StoresBeside goes Valid rooms g mid new names besides wanted'
      → StoresBeside goes Valid rooms g old new names besides wanted
  after_stored names besides wanted wanted' old mid new read same stores = λ t.
      subst (λ (w : Outcome). OfEach (λ name did. IsNamed besides (tiles_name name)
      → LeavesBoth goes Valid rooms g old new name did) (done_with names w.journals)) (same t)
      (each_so (λ name did. IsNamed besides (tiles_name name)
      → LeavesBoth goes Valid rooms g mid new name did)
      (λ name did. IsNamed besides (tiles_name name)
      → LeavesBoth goes Valid rooms g old new name did)
      (λ name did is named. since_read name did old mid new read (is named))
      (done_with names wanted'.journals) (stores (read.is_modelled t)))
