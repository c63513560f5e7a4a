-- A mirror that a command has opened over the devices of its journal and of the file of its tiles,
-- or what the command has done where it isn't open.
use Rattle.std.proofs.Common.{refl}
use Rattle.byte_formats.specs.Types.{HashFunction, Text}
use Rattle.disk_core.specs.declared.disk.Disk.{Ghosts}
use Rattle.mirror_core.specs.Folds.{MirrorState, mirror_fold}
use Rattle.mirror_core.specs.Opened.{MirrorIsNotOpened, MirrorIsOpened}
use Rattle.mirror_core.specs.Reasons.{mirror_open_text}
use Rattle.mirror_core.specs.declared.error.MirrorOpenError.{MirrorOpenError}
use Rattle.mirror_core.specs.declared.mirror.Mirror.{Mirror}
use Rattle.mtc_room.specs.declared.room.Room.{Ghosts as Rooms}
use Rattle.std.specs.Prelude.{◌≡◌, ◌⊎◌}
use Rattle.mtc_command.specs.Answers.{Ending}
use Rattle.mtc_tiled.specs.Openings.{DevicesWereClosed, DevicesWereNotOpened, DevicesWereOpened}
use Rattle.mtc_tiled.specs.Parties.{TiledParty}
use Rattle.mtc_mirror.specs.StoredTiles.{HasMirrorTilesOf}
use Rattle.mtc_mirror.specs.Works.{mirror_open_ending}
use Rattle.tree_core.specs.declared.hashing.TreeHash.{Ghosts as Hashes}

-- Mirrors, as a kind of parties with a file of tiles beside their journal.
abbrev pub mirror_party : HashFunction → TiledParty MirrorState MirrorOpenError
mirror_party h = record {
  fold = mirror_fold h;
  fault_text = mirror_open_text;
  goes = HasMirrorTilesOf h;
  journal_words = λ why. refl;
}

module _ {R S D : Type 0} (rooms : Rooms R S D) (g : Ghosts D) (name : Text) where
  -- The mirror was opened over both devices.
  pub record MirrorWasOpened {H : Type 0} {hashes : Hashes H} (old new : R)
      (mirror : Mirror H D D hashes g g) : Type 0 where
    pub disk : D
    pub tiles : D
    pub devices : DevicesWereOpened rooms g name old new disk tiles
    pub is : MirrorIsOpened disk tiles mirror

  -- The devices were opened, the mirror was refused over them, and they were closed.
  pub record MirrorWasRefused (h : HashFunction) (old new : R) (ending : Ending) : Type 0 where
    pub both : R
    pub disk : D
    pub tiles : D
    pub disk' : D
    pub tiles' : D
    pub why : MirrorOpenError
    pub opened : DevicesWereOpened rooms g name old both disk tiles
    pub is : MirrorIsNotOpened g g h disk disk' tiles tiles' why
    pub closed : DevicesWereClosed rooms g name both new disk' tiles'
    pub ends : ending ≡ mirror_open_ending name why

  -- It isn't open: its devices aren't, or it was refused over them.
  abbrev pub MirrorWasNotOpened : HashFunction → R → R → Ending → Type 0
  MirrorWasNotOpened h old new ending = DevicesWereNotOpened rooms g name old new ending
      ⊎ MirrorWasRefused h old new ending
