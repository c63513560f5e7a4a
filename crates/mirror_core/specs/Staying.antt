-- A mirror that calls read, one after the other.
use Rattle.std.proofs.Common.{refl, ◌∙◌}
use Rattle.byte_formats.specs.Types.{Text}
use Rattle.disk_core.proofs.Times.{nothing_read, only_read_on}
use Rattle.disk_core.specs.declared.disk.Disk.{Ghosts}
use Rattle.tree_core.specs.declared.hashing.TreeHash.{Ghosts as Hashes}
use Rattle.mirror_core.specs.Words.{MirrorAsksTiles, mirror_tiles_disk}
use Rattle.mirror_core.specs.declared.mirror.Mirror.{Mirror}

module _ {H D T : Type 0} {hashes : Hashes H} {g : Ghosts D} {k : Ghosts T} where
  -- without a call
  pub mirror_asks_alone : (mirror : Mirror H D T hashes g k)
      → ((c : Text) → k.left_since (mirror_tiles_disk mirror)
      (k.clock_at (mirror_tiles_disk mirror)) c → k.may_leave (mirror_tiles_disk mirror) c)
      → MirrorAsksTiles mirror mirror
  mirror_asks_alone mirror only_now = record {
    disk = refl;
    tiles = nothing_read k (mirror_tiles_disk mirror) only_now;
    view = refl;
    end = refl;
    broken = refl;
  }

  -- in two calls
  pub mirror_asks_both : (old mid new : Mirror H D T hashes g k) → MirrorAsksTiles old mid
      → MirrorAsksTiles mid new → MirrorAsksTiles old new
  mirror_asks_both old mid new first second = record {
    disk = second.disk ∙ first.disk;
    tiles =
        only_read_on k (mirror_tiles_disk old) (mirror_tiles_disk mid) (mirror_tiles_disk new)
        first.tiles second.tiles;
    view = second.view ∙ first.view;
    end = second.end ∙ first.end;
    broken = second.broken ∙ first.broken;
  }
