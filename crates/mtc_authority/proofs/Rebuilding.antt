-- What the tiles that were written again leave of both files.
use Rattle.std.proofs.Common.{◌≡◌, ◌⊎◌, ◌∙◌, ◌==◌, inl, inr, ℕ, Bool, true, false, List, [], ◌∷◌}
use Rattle.std.proofs.Common.{Option, None, Some, IfSome, Result, Ok, Err, option_map, refl, sym}
use Rattle.std.proofs.Common.{subst, ap, arith, if◌then◌else◌}
use Rattle.std.specs.Option.{IsSomeAnd}
use Rattle.std.specs.Prelude.{◌≢◌, option_and_then}
use Rattle.std.proofs.lemmas.Bool.{eqb-true}
use Rattle.std.proofs.lemmas.Option.{same_Some}
use Rattle.byte_formats.specs.Types.{HashFunction, Text}
use Rattle.byte_formats.proofs.Steps.{ok_is}
use Rattle.disk_core.specs.Same.{SameDevice}
use Rattle.disk_core.specs.Times.{OnlyReads}
use Rattle.disk_core.specs.declared.disk.Disk.{Ghosts}
use Rattle.disk_core.proofs.Times.{nothing_read, only_read_on}
use Rattle.file_events.specs.Tiles.{AllGo}
use Rattle.file_events.specs.Worlds.{states_at}
use Rattle.journal_core.specs.Format.{Represents, records_of}
use Rattle.journal_core.specs.Words.{AllRepresent}
use Rattle.journal_core.specs.declared.error.OpenError.TheVariants as open_error
use Rattle.journal_core.proofs.Records.{records_of-stands}
use Rattle.journal_core.proofs.Found.{read_standing}
use Rattle.issuance_log.specs.Folds.{LogState, log_fold, log_of}
use Rattle.issuance_log.specs.Openings.{FoundLog, log_read}
use Rattle.issuance_log.specs.Reasons.{log_open_text}
use Rattle.issuance_log.specs.Rebuilt.{HasRebuiltTiles, HoldsItsTiles, IsLogFound, LeavesRebuilt}
use Rattle.issuance_log.specs.Rebuilt.{RewritesTiles}
use Rattle.issuance_log.specs.declared.error.LogOpenError.{LogOpenError}
use Rattle.issuance_log.specs.declared.error.LogOpenError.TheVariants.{BadRecord, Open}
use Rattle.issuance_log.specs.declared.error.LogOpenError.TheVariants.{Tile as NoTiles}
use Rattle.issuance_log.specs.declared.error.LogError.TheVariants.{NothingNew}
use Rattle.tile_store.specs.Layout.{tiles_end}
use Rattle.tile_store.specs.Writing.{KeepsAfter}
use Rattle.tile_store.specs.declared.error.TileError.TheVariants as tile_error
use Rattle.mtc_room.specs.Room.{ModelsFile, OpensBytes}
use Rattle.mtc_room.specs.declared.room.Room.{Ghosts as Rooms}
use Rattle.mtc_command.specs.Answers.{Ending, IfReply, Reply, no_memory, replied, said, status_of}
use Rattle.mtc_command.specs.Answers.{tiles_name}
use Rattle.mtc_command.specs.Served.{HasServedBeside, OnlyReadsBeside}
use Rattle.mtc_command.specs.Steps.{Outcome, answers_on, held_in, with_form}
use Rattle.mtc_command.specs.Stored.{HasStoredBoth, HasStoredOn, StoresBeside}
use Rattle.mtc_command.specs.Valid.{KeepsValid}
use Rattle.mtc_command.specs.Works.{HasWorkedTiledOn, journaled_by}
use Rattle.mtc_command.specs.declared.answer.Said.TheVariants.{Done}
use Rattle.mtc_command.proofs.Beside.{ModelsAll, held_is, only_read_tiled, put_back, put_beside}
use Rattle.mtc_command.proofs.Beside.{served_tiled, valid_tiled}
use Rattle.mtc_command.proofs.Made.{OnlyNow, ReadsCrashState}
use Rattle.mtc_command.proofs.Stored.{read_both, stored_tiled}
use Rattle.mtc_command.proofs.Tiled.{read_tiled, tiled_early, tiled_on}
use Rattle.mtc_command.proofs.Works.{each_some}
use Rattle.mtc_tiled.specs.Headers.{SparesTiles}
use Rattle.mtc_tiled.specs.Openings.{DevicesWereClosed, DevicesWereNotOpened, DevicesWereOpened}
use Rattle.mtc_tiled.specs.Openings.{outcome_over}
use Rattle.mtc_tiled.proofs.NotOpened.{only_read_valid, party_not_opened}
use Rattle.mtc_tiled.proofs.Refused.{tiles_say}
use Rattle.mtc_authority.specs.OpenLogs.{LogWasNotOpened, RefusesNoLog, log_party}
use Rattle.mtc_authority.specs.StoredTiles.{HasTilesOf, MakesTilesWhole, after_tiles}
use Rattle.mtc_authority.specs.TileOutcome.{rebuilt_bytes_say, rebuilt_reply, rebuilt_says}
use Rattle.mtc_authority.specs.TileOutcome.{tiled_line, tiles_refused}
use Rattle.mtc_authority.specs.Works.{IsLog, rebuilt_ending, log_open_ending}
use Rattle.mtc_authority.proofs.Both.{CountsNow}
use Rattle.mtc_authority.proofs.Opened.{refused_says}

pub rebuilt_refuses : (h : HashFunction) (name : Text)
    → RefusesNoLog h name (rebuilt_bytes_say h name)
rebuilt_refuses h name bytes held why is =
    ap (λ r. with_form log_open_text name r rebuilt_says) is

-- the devices weren't opened
pub rebuilt_not_opened : (h : HashFunction) {R S D : Type 0} (rooms : Rooms R S D) (g : Ghosts D)
    (name : Text) (old new : R) (ending : Ending) → OnlyNow g
    → DevicesWereNotOpened rooms g name old new ending
    → LogWasNotOpened rooms g name h (rebuilt_bytes_say h name) old new ending
rebuilt_not_opened h rooms g name old new ending only_now is =
    party_not_opened (log_party h) rooms g name (rebuilt_bytes_say h name) old
    (rebuilt_refuses h name) only_now new ending is

-- ---- the log that was found

module _ (h : HashFunction) (name : Text) {D : Type 0} (g : Ghosts D) (disk' : D)
    (P : LogState → Type 0) where
  abbrev pub Finds : Text → Type 0
  Finds b = (found : FoundLog) × (IsLogFound g h b disk' found × P found.state)

  -- its records are those that stand there
  the_records : (b x : Text) (found : FoundLog) → Some x ≡ Some b → Represents b found.records
      → found.records ≡ records_of x
  the_records b x found same stands = sym (records_of-stands x found.records
      (subst (λ c. Represents c found.records) (sym (same_Some x b same)) stands))

  found_says : (size : ℕ) → ((s : LogState) → P s → s.tiled ≡ size)
      → (held contents x : Option Text) → x ≡ contents → IfSome contents Finds
      → IfSome held (λ t. IfSome contents (λ b. IfSome (option_map records_of x) (λ l.
      rebuilt_bytes_say h name b t ≡ answers_on l (rebuilt_reply size))))
  found_says size is None contents x same finds = tt
  found_says size is (Some t) None x same finds = tt
  found_says size is (Some t) (Some b) None same finds = tt
  found_says size is (Some t) (Some b) (Some x) same finds =
      let log = finds.1.0 in
      let first = ap (λ r. with_form log_open_text name r rebuilt_says) log.is in
      let second = ap (λ n. answers_on finds.0.records (rebuilt_reply n))
      (is finds.0.state finds.1.1) in
      first ∙ (second ∙ ap (λ l. answers_on l (rebuilt_reply size))
      (the_records b x finds.0 same log.stands))

  found_stands : (contents x : Option Text) → x ≡ contents → IfSome contents Finds
      → IfSome x (λ b. IfSome (option_map records_of x) (Represents b))
  found_stands contents None same finds = tt
  found_stands None (Some x) same finds = absurd cc
  found_stands (Some b) (Some x) same finds =
      subst (Represents x) (the_records b x finds.0 same finds.1.0.stands)
      (subst (λ c. Represents c finds.0.records) (sym (same_Some x b same)) finds.1.0.stands)

  found_all : (contents x : Option Text) → x ≡ contents → IfSome contents Finds
      → IfSome (option_map records_of x) (AllRepresent g disk')
  found_all contents None same finds = tt
  found_all None (Some x) same finds = absurd cc
  found_all (Some b) (Some x) same finds = subst (AllRepresent g disk')
      (the_records b x finds.0 same finds.1.0.stands) finds.1.0.all

-- records of which a file is read make one log
same_state : (h : HashFunction) (b : Text) (found : FoundLog) (s : LogState)
    → log_read h b ≡ Ok found → Represents b found.records → log_of h found.records ≡ Ok s
    → found.state ≡ s
same_state h b found s is stands made =
    ap (λ (f : FoundLog). f.state) (ok_is LogOpenError found _
    (sym is ∙ read_standing (log_fold h) b found.records s stands made))

-- ---- the devices

-- a reply of another status than 1
plain_if : (test : Bool) (one other : Reply) → status_of one ≢ 1 → status_of other ≢ 1
    → status_of (if test then one else other) ≢ 1
plain_if true one other first second = first
plain_if false one other first second = second

-- The journal's device was only read since it was opened, as `first`.
module _ (h : HashFunction) (name : Text) {D : Type 0} (g : Ghosts D)
    (first disk disk' tiles tiles' : D) (read_first : OnlyReads g first disk)
    (fine : g.faults disk ≡ g.faults first) (read : OnlyReads g disk disk') where
  abbrev says : Text → Text → Outcome
  says = rebuilt_bytes_say h name

  all_read : OnlyReads g first disk'
  all_read = only_read_on g first disk disk' read_first read

  -- what was found in the journal was found in that of before
  finds_first : (P : LogState → Type 0) → IfSome (g.contents disk) (Finds h name g disk' P)
      → IfSome (g.contents first) (Finds h name g disk' P)
  finds_first P = subst (λ (o : Option Text). IfSome o (Finds h name g disk' P)) read_first.contents

  abbrev Left : Result ℕ LogOpenError → Type 0
  Left = LeavesRebuilt g g h disk disk' tiles tiles'

  abbrev Worked : Ending → Type 0
  Worked = HasWorkedTiledOn g name says first disk' tiles tiles'

  done_by : (size : ℕ) → ReadsCrashState g → OnlyNow g → Left (Ok size)
      → Worked (replied (rebuilt_reply size))
  done_by size crash_state only_now left =
      let finds = finds_first _ left.found in
      let contents = all_read.contents in
      tiled_on g name says (λ l. answers_on l (rebuilt_reply size)) first disk' disk' tiles tiles
      tiles' (replied (rebuilt_reply size)) crash_state all_read (left.fine ∙ fine)
      (nothing_read g tiles (only_now tiles)) refl
      (found_says h name g disk' _ size (λ s is. is.0) (g.contents tiles) (g.contents first)
      (g.contents disk') contents finds)
      (found_stands h name g disk' _ (g.contents first) (g.contents disk') contents finds)
      (found_all h name g disk' _ (g.contents first) (g.contents disk') contents finds)
      (read_tiled g name
      (option_and_then (λ bytes. option_map records_of (g.contents disk')) (g.contents tiles))
      disk' disk' tiles tiles' (λ l. rebuilt_reply size) (replied (rebuilt_reply size)) (inl refl)
      (record {
        plain = plain_if (size == 0) _ _ (λ e. absurd cc) (λ e. absurd cc);
        later = omega arith;
        fault = tt;
      })
      (each_some _ _ (λ l. refl)))

  by_answer : ReadsCrashState g → OnlyNow g → (answer : Result ℕ LogOpenError) → Left answer
      → Worked (rebuilt_ending name answer)
  by_answer crash_state only_now (Ok size) left = done_by size crash_state only_now left
  by_answer crash_state only_now (Err (NoTiles tile_error.Failed)) left =
      tiles_say (log_party h) name says (rebuilt_refuses h name) g first disk disk' tiles tiles'
      read_first fine read left.failed
  by_answer crash_state only_now (Err (NoTiles (tile_error.BadTile level place))) left =
      absurd left
  by_answer crash_state only_now (Err (BadRecord number)) left =
      refused_says h name says (rebuilt_refuses h name) g first disk disk' tiles tiles' read_first
      fine read (BadRecord number) tt left.cause
  by_answer crash_state only_now (Err (Open why)) left =
      refused_says h name says (rebuilt_refuses h name) g first disk disk' tiles tiles' read_first
      fine read (Open why) tt left.cause

  memory_says : Worked no_memory
  memory_says = tiled_early g name says first disk' tiles tiles' all_read no_memory
      (record { plain = tt; later = all_read.faults; fault = tt }) tt tt

  pub rebuilt_worked : ReadsCrashState g → OnlyNow g → (answer : Result ℕ LogOpenError)
      → Left answer → (ending : Ending)
      → (ending ≡ rebuilt_ending name answer) ⊎ (ending ≡ no_memory) → Worked ending
  rebuilt_worked crash_state only_now answer left ending is = elim is [
    | inl same ↦ subst Worked (sym same) (by_answer crash_state only_now answer left)
    | inr none ↦ subst Worked (sym none) memory_says
  ]

  -- ---- both files at once

  abbrev Goes : List Text → Text → Type 0
  Goes = HasTilesOf h

  -- The tiles of the log that was found are written from the first bad one on: if each crash left
  -- them before, each leaves them now.
  goes_on : CountsNow g → (b held : Text) (found : FoundLog) → IsLogFound g h b disk' found
      → RewritesTiles g h tiles tiles' found.state held
      → ((t : Text) → g.may_leave tiles t → Goes found.records t)
      → (t : Text) → g.may_leave tiles' t → Goes found.records t
  goes_on now b held found log rewrites all t at s made =
      let same = same_state h b found s log.is log.stands made in
      let stays = rewrites.keeps
      (λ c there. subst (λ (u : LogState). HoldsItsTiles h u c) (sym same) (all c there s made)) in
      subst (λ (u : LogState). HoldsItsTiles h u t) same
      (stays.each t (now tiles' (g.clock_at tiles) t stays.later at))

  stored_at : CountsNow g → (held contents : Option Text)
      → IfSome contents (Finds h name g disk' (λ s.
      IfSome held (RewritesTiles g h tiles tiles' s)))
      → IfSome held (λ t. IfSome contents (λ b.
      HasStoredBoth Goes (IsLog h) g (journaled_by (says b t)) first disk' tiles tiles'))
  stored_at now None contents finds = tt
  stored_at now (Some t) None finds = tt
  stored_at now (Some t) (Some b) finds =
      let log = finds.1.0 in
      subst (λ (o : Outcome).
      HasStoredBoth Goes (IsLog h) g (journaled_by o) first disk' tiles tiles')
      (sym (ap (λ r. with_form log_open_text name r rebuilt_says) log.is))
      (inr (record {
        valid = tt;
        stands = log.all;
        left = goes_on now b t finds.0 log finds.1.1;
      }))

  -- a fact of the state that was found, in other words
  finds_so : (P Q : LogState → Type 0) (contents : Option Text) → ((s : LogState) → P s → Q s)
      → IfSome contents (Finds h name g disk' P) → IfSome contents (Finds h name g disk' Q)
  finds_so P Q None so finds = tt
  finds_so P Q (Some b) so finds = (finds.0, (finds.1.0, so finds.0.state finds.1.1))

  held_so : (P Q : Text → Type 0) (held : Option Text) → ((t : Text) → P t → Q t)
      → IfSome held P → IfSome held Q
  held_so P Q None so is = tt
  held_so P Q (Some t) so is = so t is

  only_read_both : OnlyReads g tiles tiles' → HasStoredOn Goes (IsLog h) g says first disk' tiles
      tiles'
  only_read_both only = read_both Goes (IsLog h) g says first disk' tiles tiles' all_read only

  pub rebuilt_stored : CountsNow g → (answer : Result ℕ LogOpenError) → Left answer
      → HasStoredOn Goes (IsLog h) g says first disk' tiles tiles'
  rebuilt_stored now (Ok size) left = stored_at now (g.contents tiles) (g.contents first)
      (finds_so _ (λ s. IfSome (g.contents tiles) (RewritesTiles g h tiles tiles' s))
      (g.contents first) (λ s is. held_so _ _ (g.contents tiles) (λ t made. made.rewrites) is.1)
      (finds_first _ left.found))
  rebuilt_stored now (Err (NoTiles tile_error.Failed)) left = elim left.left [
    | inl only ↦ only_read_both only
    | inr finds ↦ stored_at now (g.contents tiles) (g.contents first) (finds_first _ finds)
  ]
  rebuilt_stored now (Err (NoTiles (tile_error.BadTile level place))) left = absurd left
  rebuilt_stored now (Err (BadRecord number)) left = only_read_both left.only_reads_tiles
  rebuilt_stored now (Err (Open why)) left = only_read_both left.only_reads_tiles

  abbrev Whole : ℕ → LogState → Type 0
  Whole size s = (s.tiled ≡ size) × IfSome (g.contents tiles) (HasRebuiltTiles g h tiles tiles' s)

  -- where a size is answered, each crash leaves records of one log, and its tiles
  pub record HasBoth : Type 0 where
    pub bytes : Text
    pub found : FoundLog
    pub log : IsLogFound g h bytes disk' found
    pub holds : (t : Text) → g.may_leave tiles' t → HoldsItsTiles h found.state t
    pub after : KeepsAfter g (tiles_end found.state.tiled) tiles tiles'

  pub both_at : (size : ℕ) → Left (Ok size) → (file beside : Option Text)
      → OpensBytes file (g.contents first) → OpensBytes beside (g.contents tiles) → HasBoth
  both_at size left None beside opened opened_beside =
      let there = opened.there in absurd cc
  both_at size left (Some b) None opened opened_beside =
      let there = opened_beside.there in absurd cc
  both_at size left (Some b) (Some t) opened opened_beside =
      let finds = subst (λ (o : Option Text). IfSome o (Finds h name g disk' (Whole size)))
      opened.same (finds_first (Whole size) left.found) in
      let made = subst (λ (o : Option Text).
      IfSome o (HasRebuiltTiles g h tiles tiles' finds.0.state))
      opened_beside.same finds.1.1.1 in
      record { bytes = b; found = finds.0; log = finds.1.0; holds = made.holds; after = made.after }

-- ---- the file system

-- what was closed leaves no more than the device did
closed_leaves : {D : Type 0} (g : Ghosts D) (z : Option D) (e : D)
    → IsSomeAnd z (λ b. SameDevice g e b) → (c : Text) → states_at g z c → g.may_leave e c
closed_leaves g None e put c at = absurd put
closed_leaves g (Some b) e put c at = (put.leaves c).0 at

-- and its file has the bytes of the device
closed_held : {D : Type 0} (g : Ghosts D) (file : Option Text) (z : Option D) (e : D)
    → IsSomeAnd z (λ b. SameDevice g e b) → ModelsFile g.contents file z
    → g.contents e ≡ Some (held_in file)
closed_held g file None e put is = absurd put
closed_held g None (Some b) e put is = let there = is.1 in absurd cc
closed_held g (Some x) (Some b) e put is = sym put.reads ∙ is.0

-- a refusal isn't the work
not_done : (name text : Text) (why : LogOpenError)
    → log_open_ending name why ≡ replied (said Done text) → ⊥
not_done name text (Open open_error.Failed) is = cc
not_done name text (Open open_error.Memory) is = cc
not_done name text (NoTiles tile_error.Failed) is = cc
not_done name text (NoTiles (tile_error.BadTile level place)) is = cc
not_done name text why is = cc

-- where memory was refused nothing is said
no_memory_whole : {R S D : Type 0} (h : HashFunction) (rooms : Rooms R S D) (g : Ghosts D)
    (old new : R) (name : Text) → MakesTilesWhole h rooms g old new name no_memory
no_memory_whole h rooms g old new name = record {
  whole = λ is_modelled text done. absurd cc;
  after = λ is_modelled text done. absurd cc;
  nothing = tt;
}

module _ (h : HashFunction) {R S D : Type 0} (rooms : Rooms R S D) (g : Ghosts D) (name : Text)
    (old both new : R) (disk disk' tiles tiles' : D)
    (opened : DevicesWereOpened rooms g name old both disk tiles)
    (closed : DevicesWereClosed rooms g name both new disk' tiles')
    (read : OnlyReads g disk disk') (answer : Result ℕ LogOpenError)
    (left : LeavesRebuilt g g h disk disk' tiles tiles' answer) where
  abbrev its : Text → Text → Outcome
  its = rebuilt_bytes_say h name

  abbrev wanted : Outcome
  wanted = outcome_over rooms g name its old

  abbrev first_disk : D
  first_disk = opened.header.opened_disk

  abbrev IsEnding : Ending → Type 0
  IsEnding ending = (ending ≡ rebuilt_ending name answer) ⊎ (ending ≡ no_memory)

  pub rebuilt_serves : ReadsCrashState g → OnlyNow g → (ending : Ending) → IsEnding ending
      → HasServedBeside rooms g (name ∷ tiles_name name ∷ []) name (tiles_name name) wanted old new
      ending
  rebuilt_serves crash_state only_now ending is =
      served_tiled rooms g name (name ∷ tiles_name name ∷ []) its old opened.mid both closed.mid new
      first_disk disk' tiles tiles' ending opened.header.opened opened.beside closed.beside
      closed.journal
      (rebuilt_worked h name g first_disk disk disk' tiles tiles' opened.header.only_reads
      opened.header.fine read crash_state only_now answer left ending is) (inl refl)
      (inr (inl refl))

  pub rebuilt_valid : KeepsValid rooms g (IsLog h) (name ∷ []) wanted old new
  rebuilt_valid = valid_tiled rooms g name (name ∷ tiles_name name ∷ []) its old opened.mid both
      closed.mid new first_disk disk' tiles tiles' no_memory opened.header.opened opened.beside
      closed.beside closed.journal (IsLog h)
      (only_read_valid g (IsLog h) its first_disk disk' (g.contents tiles)
      (only_read_on g first_disk disk disk' opened.header.only_reads read))

  pub rebuilt_stores : ModelsAll rooms g → CountsNow g
      → StoresBeside (HasTilesOf h) (IsLog h) rooms g old new (name ∷ []) (tiles_name name ∷ [])
      wanted
  rebuilt_stores all now =
      stored_tiled (HasTilesOf h) (IsLog h) rooms g name its old opened.mid both
      closed.mid new first_disk disk' tiles tiles' opened.header.opened opened.beside closed.beside
      closed.journal all
      (rebuilt_stored h name g first_disk disk disk' tiles tiles' opened.header.only_reads
      opened.header.fine read now answer left)

  pub rebuilt_spares : SparesTiles rooms old new name
  rebuilt_spares = λ t not. absurd (opened.is_journal t not)

  abbrev beside : Text
  beside = tiles_name name

  abbrev Rebuilt : Result ℕ LogOpenError → Type 0
  Rebuilt = LeavesRebuilt g g h disk disk' tiles tiles'

  abbrev Both : Type 0
  Both = HasBoth h name g first_disk disk disk' tiles tiles' opened.header.only_reads
      opened.header.fine read

  has_both : (size : ℕ) → Rebuilt (Ok size) → rooms.is_modelled old → Both
  has_both size fully is_modelled =
      both_at h name g first_disk disk disk' tiles tiles' opened.header.only_reads
      opened.header.fine read size fully (rooms.file old name) (rooms.file both beside)
      (opened.header.opened.bytes is_modelled)
      (opened.beside.bytes (opened.header.opened.is_modelled is_modelled))

  -- records that a crash leaves make the log that was found
  is_found : (has : Both) → rooms.is_modelled old → (c : Text) (list : List Text)
      → states_at g (rooms.device new name) c → Represents c list → (s : LogState)
      → log_of h list ≡ Ok s → has.found.state ≡ s
  is_found has is_modelled c list at stands s made =
      let put = put_back rooms g name [] its old opened.mid both closed.mid new first_disk disk'
      tiles tiles' no_memory opened.header.opened opened.beside closed.beside closed.journal
      is_modelled in
      let one = sym (records_of-stands c list stands) ∙ records_of-stands c has.found.records
      (has.log.all c (closed_leaves g (rooms.device new name) disk' put c at)) in
      same_state h has.bytes has.found s has.log.is has.log.stands
      (subst (λ (l : List Text). log_of h l ≡ Ok s) one made)

  put_tiles : rooms.is_modelled old
      → IsSomeAnd (rooms.device new beside) (λ b. SameDevice g tiles' b)
  put_tiles = put_beside rooms g name old opened.mid both closed.mid new first_disk disk' tiles
      tiles' opened.header.opened opened.beside closed.beside closed.journal

  whole_by : (has : Both) → rooms.is_modelled old → (c : Text) (list : List Text)
      → states_at g (rooms.device new name) c → Represents c list
      → AllGo (HasTilesOf h) list (states_at g (rooms.device new beside))
  whole_by has is_modelled c list at stands t there s made =
      subst (λ (u : LogState). HoldsItsTiles h u t)
      (is_found has is_modelled c list at stands s made)
      (has.holds t
      (closed_leaves g (rooms.device new beside) tiles' (put_tiles is_modelled) t there))

  after_by : (has : Both) → ModelsAll rooms g → rooms.is_modelled old → (c : Text)
      (list : List Text) → states_at g (rooms.device new name) c → Represents c list
      → (s : LogState) → log_of h list ≡ Ok s
      → after_tiles s (rooms.file new beside) ≡ after_tiles s (rooms.file old beside)
  after_by has all is_modelled c list at stands s made =
      let is_modelled' = closed.journal.is_modelled (closed.beside.is_modelled
      (opened.beside.is_modelled (opened.header.opened.is_modelled is_modelled))) in
      subst (λ (u : LogState).
      after_tiles u (rooms.file new beside) ≡ after_tiles u (rooms.file old beside))
      (is_found has is_modelled c list at stands s made)
      (has.after (held_in (rooms.file old beside)) (held_in (rooms.file new beside))
      (held_is rooms g name old opened.mid both first_disk tiles opened.header.opened opened.beside
      is_modelled)
      (closed_held g (rooms.file new beside) (rooms.device new beside) tiles'
      (put_tiles is_modelled) (all new beside is_modelled')))

  abbrev Only : Type 0
  Only = OnlyReadsBeside rooms g old new beside

  abbrev Nothing : Ending → Type 0
  Nothing ending = IfReply ending (λ reply. status_of reply ≢ 0 → Only)

  only_beside : ModelsAll rooms g → OnlyReads g tiles tiles' → Only
  only_beside all only = only_read_tiled rooms g name old opened.mid both closed.mid new first_disk
      disk' tiles tiles' opened.header.opened opened.beside closed.beside closed.journal all only

  nothing_if : ModelsAll rooms g → (size : ℕ) (test : Bool) → (size == 0) ≡ test
      → Rebuilt (Ok size)
      → Nothing (replied (if test then tiles_refused NothingNew else said Done (tiled_line size)))
  nothing_if all size true is fully = λ other. only_beside all (fully.none (eqb-true size 0 is))
  nothing_if all size false is fully = λ other. absurd (other refl)

  nothing_of : ModelsAll rooms g → (result : Result ℕ LogOpenError) → Rebuilt result
      → Nothing (rebuilt_ending name result)
  nothing_of all (Ok size) fully = nothing_if all size (size == 0) refl fully
  nothing_of all (Err (NoTiles tile_error.Failed)) fully = tt
  nothing_of all (Err (NoTiles (tile_error.BadTile level place))) fully = absurd fully
  nothing_of all (Err (BadRecord number)) fully = λ other. only_beside all fully.only_reads_tiles
  nothing_of all (Err (Open open_error.Failed)) fully = tt
  nothing_of all (Err (Open open_error.Memory)) fully = tt
  nothing_of all (Err (Open why)) fully = λ other. only_beside all fully.only_reads_tiles

  whole_of : ModelsAll rooms g → (result : Result ℕ LogOpenError) → Rebuilt result
      → MakesTilesWhole h rooms g old new name (rebuilt_ending name result)
  whole_of all (Ok size) fully = record {
    whole = λ is_modelled text done. whole_by (has_both size fully is_modelled) is_modelled;
    after = λ is_modelled text done. after_by (has_both size fully is_modelled) all is_modelled;
    nothing = nothing_of all (Ok size) fully;
  }
  whole_of all (Err why) fully = record {
    whole = λ is_modelled text done. absurd (not_done name text why done);
    after = λ is_modelled text done. absurd (not_done name text why done);
    nothing = nothing_of all (Err why) fully;
  }

  pub rebuilt_whole : ModelsAll rooms g → (ending : Ending) → IsEnding ending
      → MakesTilesWhole h rooms g old new name ending
  rebuilt_whole all ending is = elim is [
    | inl same ↦ subst (MakesTilesWhole h rooms g old new name) (sym same)
        (whole_of all answer left)
    | inr none ↦ subst (MakesTilesWhole h rooms g old new name) (sym none)
        (no_memory_whole h rooms g old new name)
  ]
