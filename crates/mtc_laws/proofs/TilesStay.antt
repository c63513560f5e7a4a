-- Tiles survive a stop.
use Rattle.std.proofs.Common.{◌≡◌, inl, inr, ℕ, List, [], ◌∷◌, ◌++◌, None, Option, Some, Ok}
use Rattle.std.proofs.Common.{arith, rules, drop, sym, subst, ap, ◌∙◌}
use Rattle.std.specs.Prelude.{map}
use Rattle.std.proofs.lemmas.List.{length-drop, length-take}
use Rattle.std.proofs.lemmas.Option.{none-some, same_Some}
use Rattle.byte_formats.specs.Offsets.{IsBytes}
use Rattle.byte_formats.specs.Types.{Hash, HashFunction, Text}
use Rattle.byte_formats.proofs.Steps.{ok_is}
use Rattle.disk_core.specs.Disk.{part}
use Rattle.disk_core.specs.declared.disk.Disk.{Ghosts as Disks}
use Rattle.file_events.specs.Events.{CrashStates, Done, Event, EventHolds, Happens, StatesRepresent}
use Rattle.file_events.specs.Events.{appended, broke, elsewhere, ran, reads}
use Rattle.file_events.specs.Events.{Journaled, records_after, started, untouched}
use Rattle.file_events.specs.Tiles.{Goes}
use Rattle.file_events.specs.Worlds.{IsFileEvent, cut, died, states_at, stops, exited}
use Rattle.file_events.specs.Worlds.{writes, IsFileExecution}
use Rattle.file_events.proofs.Owners.{tiles_survive}
use Rattle.file_events.proofs.Records.{held_durable, one_list}
use Rattle.file_events.specs.Tiles.{stored}
use Rattle.journal_core.specs.Folds.{taken_from}
use Rattle.journal_core.proofs.Standing.{found_stands}
use Rattle.mtc_io.specs.declared.sink.Sink.{Ghosts as Sinks}
use Rattle.mtc_room.specs.Room.{ModelsFile}
use Rattle.mtc_room.specs.declared.room.Room.{Ghosts as Rooms}
use Rattle.tile_store.specs.Causes.{StandsIn}
use Rattle.tile_store.specs.Contents.{HoldsTiles, IsTile}
use Rattle.tile_store.specs.Layout.{IsFull, tile_at}
use Rattle.tree_core.specs.Tree.{leaf_hash}
use Rattle.issuance_log.specs.Folds.{LogState, log_after, log_fold, new_log}
use Rattle.issuance_log.specs.Settings.{Settings}
use Rattle.issuance_log.proofs.After.{only_begins}
use Rattle.mirror_core.specs.Folds.{MirrorState, entries_in_mirror, mirror_after, mirror_fold}
use Rattle.mirror_core.specs.Folds.{new_mirror}
use Rattle.mirror_core.proofs.After.{only_begins as mirror_begins}
use Rattle.mtc_command.specs.Answers.{tiles_name}
use Rattle.mtc_command.specs.Steps.{held_in}
use Rattle.mtc_command.proofs.Made.{OnlyNow, ReadsCrashState}
use Rattle.mtc_tiled.specs.BadTiles.{first_bad_tile}
use Rattle.mtc_tiled.proofs.BadTiles.{none_bad, none_full}
use Rattle.mtc_authority.proofs.Both.{CountsNow}
use Rattle.party_history.specs.Rules.{AreRecords}
use Rattle.mtc_laws.specs.TileLaws.{HasPartyTiles, NoTileIsBad, TilesSurviveStops, tiled_journal}
use Rattle.mtc_laws.proofs.Leaves.{contents_crash_state, first_own, modelled_file, serves}
use Rattle.mtc_laws.proofs.LogLeaves.{serves_log}
use Rattle.mtc_laws.proofs.Misread.{misread_inputs}
use Rattle.mtc_laws.proofs.Recovered.{modelled_then}
use Rattle.mtc_top.specs.Executions.{program, IsBegun, FileEvent}
use Rattle.mtc_laws.proofs.Aliases.{owner_of, crash_states_in, IsOwnExecution}
use Rattle.mtc_laws.proofs.Aliases.{ModelsFiles}

-- ---- a new log has no tiles

no_rest : (x y : Text) (ys : List Text) → x ∷ [] ≡ y ∷ ys → [] ≡ ys
no_rest x y ys is = cc

after_none : (h : HashFunction) (s : Settings) (t : LogState) (bodies : List Text)
    → [] ≡ bodies → log_after h s bodies ≡ Ok t → new_log s ≡ t
unfolding taken_from
after_none h s t bodies none is =
    ok_is ℕ (new_log s) t (subst (λ (l : List Text). log_after h s l ≡ Ok t) (sym none) is)

mirror_after_none : (h : HashFunction) (log : Text) (m : MirrorState) (bodies : List Text)
    → [] ≡ bodies → mirror_after h log bodies ≡ Ok m → new_mirror log ≡ m
unfolding taken_from
mirror_after_none h log m bodies none is =
    ok_is ℕ (new_mirror log) m
    (subst (λ (l : List Text). mirror_after h log l ≡ Ok m) (sym none) is)

-- a size of no tiles goes with any file
none_held : (h : HashFunction) (leaves : List Hash) (tiled : ℕ) (t : Text) → 0 ≡ tiled
    → HoldsTiles h leaves tiled t
none_held h leaves tiled t none level place full =
    absurd (none_full level place (subst (λ (n : ℕ). IsFull n level place) (sym none) full))

first_goes : (h : HashFunction) (first t : Text) → HasPartyTiles h (first ∷ []) t
first_goes h first t = (
  λ s made.
      let begins = only_begins h (first ∷ []) s made in
      let same = after_none h s.settings s begins.1.0
      (no_rest first begins.0 begins.1.0 begins.1.1.0) begins.1.1.2 in
      none_held h (map (leaf_hash h) s.entries) s.tiled t (ap (λ (u : LogState). u.tiled) same),
  λ m made.
      let begins = mirror_begins h (first ∷ []) m made in
      let same = mirror_after_none h m.log m begins.1.0
      (no_rest first begins.0 begins.1.0 begins.1.1.0) begins.1.1.2 in
      none_held h (map (leaf_hash h) (entries_in_mirror m)) m.tiled t
      (ap (λ (u : MirrorState). u.tiled) same),
)

-- a run that held some records leaves these
states_hold : (Valid : List Text → Type 0) (list : List Text) (did : Journaled)
    (before now : CrashStates) → records_after did ≡ Some list → Done Valid did before now
    → StatesRepresent now list
states_hold Valid list untouched before now held done = absurd (none-some list held)
states_hold Valid list (reads records) before now held done =
    subst (StatesRepresent now) (same_Some records list held) done.1
states_hold Valid list (appended records body) before now held done =
    subst (StatesRepresent now) (same_Some (records ++ body ∷ []) list held) done.1
states_hold Valid list (started body) before now held done =
    subst (StatesRepresent now) (same_Some (body ∷ []) list held) done.1.1

event_holds : (Valid : List Text → Type 0) (list : List Text) (event : Event)
    (before now : CrashStates) → EventHolds list event → Happens Valid event before now
    → StatesRepresent now list
event_holds Valid list elsewhere before now held happens = absurd held
event_holds Valid list (ran heard did) before now held happens =
    states_hold Valid list did before now held happens
event_holds Valid list (broke did) before now held happens = absurd held

first_go : (h : HashFunction) (first : Text) (journal tiles : CrashStates)
    → StatesRepresent journal (first ∷ []) → Goes (HasPartyTiles h) journal tiles
first_go h first journal tiles all c list at stands t there =
    subst (λ (l : List Text). HasPartyTiles h l t)
    (one_list c (first ∷ []) list (all c at) stands) (first_goes h first t)

-- ---- a file that has all tiles lacks none

tile_there : (h : HashFunction) (leaves : List Hash) (t : Text) (level place : ℕ)
    → IsTile h leaves level place (part (tile_at level place) 8192 t)
    → StandsIn h leaves t level place
tile_there h leaves t level place tile =
    let begin = tile_at level place in
    let cut = length-take 8192 (drop begin t) in
    let rest = length-drop begin t in
    let whole = tile.size in
    record { there = grind (arith, cut, rest, whole); tile = tile }

none_lacks : (h : HashFunction) (leaves : List Hash) (tiled : ℕ) (t : Text)
    → HoldsTiles h leaves tiled t → first_bad_tile h leaves tiled t ≡ None
none_lacks h leaves tiled t holds = none_bad h leaves tiled t (λ level place new.
    tile_there h leaves t level place (holds level place new.full))

-- so it is of these leaf hashes and this size
lacks_none : (h : HashFunction) (leaves others : List Hash) (tiled size : ℕ) (t : Text)
    → leaves ≡ others → tiled ≡ size → HoldsTiles h others size t
    → first_bad_tile h leaves tiled t ≡ None
lacks_none h leaves others tiled size t one two holds =
    ap (λ (l : List Hash). first_bad_tile h l tiled t) one
    ∙ ap (λ (n : ℕ). first_bad_tile h others n t) two ∙ none_lacks h others size t holds

-- the bytes of a file, or none, are one of its crash states
pub held_crash_state : {D : Type 0} (g : Disks D) (file : Option Text) (x : Option D)
    → ReadsCrashState g
    → ModelsFile g.contents file x → states_at g x (held_in file)
held_crash_state g file None crash_state models = ap held_in models
held_crash_state g None (Some d) crash_state models = absurd (grind (rules, models))
held_crash_state g (Some b) (Some d) crash_state models = crash_state d b models.0

pub no_none : (x : ℕ × ℕ) → None ≡ Some x → ⊥
no_none x is = absurd cc

module _ {R S D O E : Type 0} (h : HashFunction) (rooms : Rooms R S D) (disks : Disks D)
    (outs : Sinks O) (errs : Sinks E) (crash_state : ReadsCrashState disks) (only : OnlyNow disks)
    (contents : ModelsFiles rooms disks)
    (bytes : (d : D) (b : List ℕ) → disks.contents d ≡ Some b → IsBytes b)
    (counts : CountsNow disks)
    (left : (d : D) (t : ℕ) (c : List ℕ) → disks.left_since d t c → IsBytes c) where
  -- what a crash leaves are bytes
  pub left_crash_state : (x : Option D) (c : Text) → states_at disks x c → IsBytes c
  left_crash_state None c is = subst IsBytes (sym is) (λ i. omega arith)
  left_crash_state (Some d) c at =
      left d (disks.clock_at d) c (counts d (disks.clock_at d) c (omega arith) at)

  pub tiles_stay : TilesSurviveStops h (program h rooms disks outs errs)
  tiles_stay name first old new [] is_modelled holds execution c t leaves tiled at there read =
      absurd holds
  tiles_stay name first old new (exited run ∷ events) is_modelled holds execution c t leaves tiled
      at there read =
      let p = program h rooms disks outs errs in
      let own = first_own h rooms disks outs errs crash_state only contents bytes name (first ∷ [])
      old
      (exited run ∷ events) holds in
      let leads =
      ((serves h rooms disks outs errs crash_state only contents bytes name own).leaves old
      run is_modelled execution.0).leads in
      let event = (owner_of h rooms disks outs errs name).run_event old run in
      let before = crash_states_in h rooms disks outs errs old name in
      let now = crash_states_in h rooms disks outs errs run.room name in
      let tiles = crash_states_in h rooms disks outs errs run.room (tiles_name name) in
      let durable = held_durable (AreRecords h) (first ∷ []) event before now holds leads in
      let go = first_go h first now tiles
      (event_holds (AreRecords h) (first ∷ []) event before now holds leads.happens) in
      let stay = tiles_survive p (HasPartyTiles h) (λ list body. ⊥) (AreRecords h) name
      (tiles_name name) (λ o r. stored)
      (serves_log h rooms disks outs errs crash_state only contents bytes name own)
      (λ list body b plain. absurd plain) (first ∷ []) run.room new events
      (execution.0.back.is_modelled is_modelled) execution.1 durable go in
      let are = left_crash_state (rooms.device new name) c at in
      elim read [
        | inl x ↦
            (let stands = found_stands (log_fold h) c x.0 are x.1.0 in
            lacks_none h leaves (map (leaf_hash h) x.0.state.entries) tiled x.0.state.tiled t x.1.1
            x.1.2 ((stay c x.0.records at stands.0 t there).0 x.0.state stands.1))
        | inr x ↦
            (let stands = found_stands (mirror_fold h) c x.0 are x.1.0 in
            lacks_none h leaves (map (leaf_hash h) (entries_in_mirror x.0.state)) tiled
            x.0.state.tiled t x.1.1 x.1.2
            ((stay c x.0.records at stands.0 t there).1 x.0.state stands.1))
      ]
  tiles_stay name first old new (other ∷ events) is_modelled holds execution c t leaves tiled at
      there read =
      absurd holds

  -- ---- an execution of both files is one of the journal

  event_so : (name : Text) (old : R) (event : FileEvent R O E)
      → IsFileEvent (program h rooms disks outs errs)
      (tiled_journal h (program h rooms disks outs errs) name) old event
      → IsFileEvent (program h rooms disks outs errs) (owner_of h rooms disks outs errs name) old
      event
  event_so name old (exited run) is = is
  event_so name old (died run room) is = (
    is.0,
    record {
      some = is.1.some;
      happens = elim is.1.happens [ inl kept ↦ inl kept.0 | inr half ↦ inr half.0 ];
    },
  )
  event_so name old (cut run room) is = absurd is.1
  event_so name old (stops room) is = is
  event_so name old (writes room) is =
      record { is_modelled = is.is_modelled; stays = λ n own. is.stays n (inl own) }

  pub journal_execution : (name : Text) (events : List (FileEvent R O E)) (old new : R)
      → IsFileExecution (program h rooms disks outs errs)
      (tiled_journal h (program h rooms disks outs errs) name) old events new
      → IsOwnExecution h rooms disks outs errs name old events new
  journal_execution name [] old new is = is
  journal_execution name (event ∷ events) old new is =
      (event_so name old event is.0, journal_execution name events _ new is.1)

  pub no_tile_bad : NoTileIsBad h (program h rooms disks outs errs) errs
  no_tile_bad name first old new events is_modelled holds execution start command run starts on
      is_run
      spoken two =
      let begun : IsBegun h (program h rooms disks outs errs) name start first old events
      = record { is_modelled = is_modelled; others = []; held = holds; starts = starts } in
      let journal = journal_execution name events old new execution in
      let is = misread_inputs h rooms disks outs errs crash_state only contents bytes name start
      first old
      new events begun journal command run on is_run spoken two in
      let modelled =
      modelled_then h rooms disks outs errs crash_state only contents bytes name start
      first old new events begun journal in
      elim is.input [
        | inl named ↦ (is, named)
        | inr lacks ↦ absurd (no_none lacks.missing (sym (tiles_stay name first old new events
            is_modelled holds execution lacks.bytes (held_in (rooms.file new (tiles_name name)))
            lacks.leaves lacks.tiled
            (contents_crash_state disks (rooms.device new name) lacks.bytes crash_state
            (modelled_file disks (rooms.file new name) (rooms.device new name)
            (contents.0 new name modelled) ∙ lacks.there))
            (held_crash_state disks (rooms.file new (tiles_name name))
            (rooms.device new (tiles_name name)) crash_state
            (contents.0 new (tiles_name name) modelled))
            lacks.is_read) ∙ lacks.lacks))
      ]
