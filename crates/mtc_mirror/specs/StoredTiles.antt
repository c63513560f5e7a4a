-- The tiles that go with the records of a mirror, and what the work on a mirror leaves of both.
use Rattle.std.specs.Prelude.{◌≡◌, List, map, IfSome, Ok}
use Rattle.byte_formats.specs.Types.{HashFunction, Text}
use Rattle.disk_core.specs.declared.disk.Disk.{Ghosts}
use Rattle.tile_store.specs.Contents.{HoldsTiles}
use Rattle.tree_core.specs.Tree.{leaf_hash}
use Rattle.tree_core.specs.declared.hashing.TreeHash.{Ghosts as Hashes}
use Rattle.mirror_core.specs.Folds.{MirrorState, entries_in_mirror, mirror_of, mirror_with}
use Rattle.mirror_core.specs.Openings.{FoundMirror}
use Rattle.mirror_core.specs.Words.{mirror_both_records, mirror_disk, mirror_tiles_disk}
use Rattle.mirror_core.specs.Words.{mirror_view}
use Rattle.mirror_core.specs.declared.mirror.Mirror.{Mirror}
use Rattle.mtc_command.specs.Made.{IsOpen}
use Rattle.mtc_command.specs.Steps.{Outcome}
use Rattle.mtc_command.specs.Stored.{HasStoredBoth}
use Rattle.mtc_command.specs.Works.{journaled_by}
use Rattle.mtc_mirror.specs.Works.{IsMirror, found_mirror}

-- The bytes have each tile of the last size of the mirror that these records make.
abbrev pub HasMirrorTilesOf : HashFunction → List Text → Text → Type 0
HasMirrorTilesOf h list bytes = (s : MirrorState) → mirror_of h list ≡ Ok s
    → HoldsTiles h (map (leaf_hash h) (entries_in_mirror s)) s.tiled bytes

module _ {H D : Type 0} {hashes : Hashes H} {g : Ghosts D} where
  -- The work on a mirror that was opened, which has to give that outcome, only read both devices;
  -- or a crash leaves the tiles that go with the records of the journal.
  abbrev pub StoresMirror : (FoundMirror → Outcome) → Mirror H D D hashes g g
      → Mirror H D D hashes g g → Type 0
  StoresMirror says old new = IfSome (mirror_both_records old) (λ list.
      IsOpen g (mirror_disk old) list
      → mirror_of hashes.hash list ≡ Ok (mirror_with (mirror_view old) list)
      → HasStoredBoth (HasMirrorTilesOf hashes.hash) (IsMirror hashes.hash) g
      (journaled_by (says (found_mirror (mirror_with (mirror_view old) list) list)))
      (mirror_disk old) (mirror_disk new) (mirror_tiles_disk old) (mirror_tiles_disk new))
