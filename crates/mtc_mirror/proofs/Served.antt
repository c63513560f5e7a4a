-- From a mirror that was opened, worked on and closed to what the command has done.
use Rattle.std.proofs.Common.{◌≡◌, [], ◌∷◌, List, None, Some, Ok, Option, IfSome, subst}
use Rattle.std.specs.Prelude.{option_and_then}
use Rattle.byte_formats.specs.Types.{HashFunction, Text}
use Rattle.disk_core.specs.declared.disk.Disk.{Ghosts}
use Rattle.tree_core.specs.declared.hashing.TreeHash.{Ghosts as Hashes}
use Rattle.mirror_core.specs.Folds.{MirrorState, mirror_of, mirror_with}
use Rattle.mirror_core.specs.Openings.{FoundMirror}
use Rattle.mirror_core.specs.Words.{mirror_disk, mirror_records, mirror_tiles_disk, mirror_view}
use Rattle.mirror_core.specs.declared.mirror.Mirror.{Mirror}
use Rattle.mtc_room.specs.declared.room.Room.{Ghosts as Rooms}
use Rattle.mtc_command.specs.Answers.{Ending, no_memory, tiles_name}
use Rattle.mtc_command.specs.Made.{IsOpen, ReadsAtMost}
use Rattle.mtc_command.specs.Served.{OnlyReadsBeside}
use Rattle.mtc_command.specs.Steps.{Outcome}
use Rattle.mtc_command.specs.Stored.{HasStoredBoth}
use Rattle.mtc_command.specs.Valid.{WorksValidly}
use Rattle.mtc_command.specs.Works.{HasWorkedTiled, journaled_by}
use Rattle.mtc_command.proofs.Beside.{ModelsAll}
use Rattle.mtc_command.proofs.Made.{OnlyNow, ReadsCrashState}
use Rattle.mtc_tiled.specs.Commands.{HasServedTiled}
use Rattle.mtc_tiled.specs.Openings.{DevicesWereClosed}
use Rattle.mtc_tiled.proofs.Commands.{not_opened_served, worked_served}
use Rattle.mtc_tiled.proofs.NotOpened.{none_opened}
use Rattle.mtc_tiled.proofs.Worked.{IsOpenedOver, over_by, worked_only_reads}
use Rattle.mtc_mirror.specs.OpenMirrors.{MirrorWasNotOpened, MirrorWasOpened, mirror_party}
use Rattle.mtc_mirror.specs.StoredTiles.{HasMirrorTilesOf, StoresMirror}
use Rattle.mtc_mirror.specs.Works.{HasWorkedOnMirror, IsMirror, StaysMirror, found_mirror}
use Rattle.mtc_mirror.specs.Works.{mirror_bytes_say, mirror_outcome}
use Rattle.mtc_mirror.proofs.Opened.{mirror_found, mirror_not_opened}

-- The work was done on a mirror whose records make it.
stored_by : {D : Type 0} (g : Ghosts D) (h : HashFunction) (says : List Text → Outcome)
    (mid new tiles tiles' : D) (contents : Option Text) (list : Option (List Text))
    (state : List Text → MirrorState) → IfSome list (λ l. mirror_of h l ≡ Ok (state l))
    → IfSome (option_and_then (λ bytes. list) contents) (λ l. IsOpen g mid l
    → mirror_of h l ≡ Ok (state l)
    → HasStoredBoth (HasMirrorTilesOf h) (IsMirror h) g (journaled_by (says l)) mid new tiles
    tiles')
    → IfSome (option_and_then (λ bytes. list) contents) (λ l. IsOpen g mid l
    → HasStoredBoth (HasMirrorTilesOf h) (IsMirror h) g (journaled_by (says l)) mid new tiles
    tiles')
stored_by g h says mid new tiles tiles' None list state made stores = tt
stored_by g h says mid new tiles tiles' (Some bytes) None state made stores = tt
stored_by g h says mid new tiles tiles' (Some bytes) (Some l) state made stores =
    λ opened. stores opened made

-- What a command with this outcome over a mirror has done.
module _ {R S D : Type 0} (rooms : Rooms R S D) (g : Ghosts D) (name : Text) (h : HashFunction)
    (says : FoundMirror → Outcome) (old : R) where
  abbrev pub ServesMirror : R → Ending → Type 0
  ServesMirror new ending = HasServedTiled rooms g name (HasMirrorTilesOf h) (IsMirror h)
      (name ∷ tiles_name name ∷ [])
      (mirror_outcome h name (rooms.file old name) (rooms.file old (tiles_name name)) says)
      old new ending

  -- no mirror was opened
  pub unopened_serves : (new : R) (ending : Ending) → OnlyNow g → ModelsAll rooms g
      → MirrorWasNotOpened rooms g name h old new ending → ServesMirror new ending
  unopened_serves new ending only_now all is =
      not_opened_served (mirror_party h) rooms g name (mirror_bytes_say h name says) old new ending
      (mirror_not_opened h name says rooms g old new ending only_now all is)

  pub unopened_reads : (new : R) (ending : Ending) → OnlyNow g → ModelsAll rooms g
      → MirrorWasNotOpened rooms g name h old new ending
      → OnlyReadsBeside rooms g old new (tiles_name name)
  unopened_reads new ending only_now all is =
      (mirror_not_opened h name says rooms g old new ending only_now all is).only_read

  -- memory was refused before anything was opened
  pub nothing_serves : OnlyNow g → ServesMirror old no_memory
  nothing_serves only_now =
      not_opened_served (mirror_party h) rooms g name (mirror_bytes_say h name says) old old
      no_memory
      (none_opened (mirror_party h) rooms g name (mirror_bytes_say h name says) old only_now)

  pub nothing_reads : OnlyNow g → OnlyReadsBeside rooms g old old (tiles_name name)
  nothing_reads only_now =
      (none_opened (mirror_party h) rooms g name (mirror_bytes_say h name says) old
      only_now).only_read

module _ {R S D H : Type 0} {hashes : Hashes H} (rooms : Rooms R S D) (g : Ghosts D) (name : Text)
    (old both new : R) (mirror later : Mirror H D D hashes g g)
    (opened : MirrorWasOpened rooms g name old both mirror)
    (closed : DevicesWereClosed rooms g name both new (mirror_disk later) (mirror_tiles_disk later))
    (says : FoundMirror → Outcome) where
  abbrev h : HashFunction
  h = hashes.hash

  abbrev its : Text → Text → Outcome
  its = mirror_bytes_say h name says

  abbrev next : List Text → Outcome
  next list = says (found_mirror (mirror_with (mirror_view mirror) list) list)

  over : IsOpenedOver g its next opened.disk (mirror_disk mirror) opened.tiles
      (mirror_tiles_disk mirror)
  over =
      let is = opened.is in
      over_by g its next opened.disk (mirror_disk mirror) opened.tiles (mirror_tiles_disk mirror)
      (mirror_records mirror) is.list is.only_reads is.only_reads_tiles is.fine is.fine_tiles
      (mirror_found h name says (g.contents opened.disk) (g.contents opened.tiles)
      (mirror_records mirror) (mirror_with (mirror_view mirror)) is.found is.tiles) is.stands is.all

  -- it was worked on
  pub mirror_serves : ReadsCrashState g → ModelsAll rooms g → StaysMirror h says mirror later
      → StoresMirror says mirror later → (ending : Ending)
      → HasWorkedOnMirror name says mirror later ending
      → ServesMirror rooms g name h says old new ending
  mirror_serves crash_state all valid stores ending works =
      let is = opened.is in
      worked_served rooms g name its next (HasMirrorTilesOf h) (IsMirror h) old both new opened.disk
      (mirror_disk mirror) (mirror_disk later) opened.tiles (mirror_tiles_disk mirror)
      (mirror_tiles_disk later) opened.devices over closed crash_state all
      (subst (λ (o : Option (List Text)). WorksValidly g (IsMirror h) o next (mirror_disk mirror)
      (mirror_disk later)) is.list valid)
      (subst (λ (o : Option (List Text)).
      IfSome (option_and_then (λ bytes. o) (g.contents (mirror_tiles_disk mirror)))
      (λ l. IsOpen g (mirror_disk mirror) l
      → HasStoredBoth (HasMirrorTilesOf h) (IsMirror h) g (journaled_by (next l))
      (mirror_disk mirror) (mirror_disk later) (mirror_tiles_disk mirror)
      (mirror_tiles_disk later))) is.list
      (stored_by g h next (mirror_disk mirror) (mirror_disk later) (mirror_tiles_disk mirror)
      (mirror_tiles_disk later) (g.contents (mirror_tiles_disk mirror)) (mirror_records mirror)
      (mirror_with (mirror_view mirror)) is.valid stores)) ending
      (subst (λ (o : Option (List Text)). HasWorkedTiled g name
      (option_and_then (λ bytes. o) (g.contents (mirror_tiles_disk mirror))) next
      (mirror_disk mirror) (mirror_disk later) (mirror_tiles_disk mirror)
      (mirror_tiles_disk later) ending) is.list works)

  pub mirror_only_reads : OnlyNow g → ModelsAll rooms g
      → ReadsAtMost g (mirror_tiles_disk mirror) (mirror_tiles_disk later)
      → OnlyReadsBeside rooms g old new (tiles_name name)
  mirror_only_reads only_now all only =
      worked_only_reads rooms g name its next old both new opened.disk (mirror_disk mirror)
      (mirror_disk later) opened.tiles (mirror_tiles_disk mirror) (mirror_tiles_disk later)
      opened.devices over closed only_now all only
