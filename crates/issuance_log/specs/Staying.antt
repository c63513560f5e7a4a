-- A log that calls read, one after the other.
use Rattle.std.proofs.Common.{refl, ◌∙◌}
use Rattle.byte_formats.specs.Types.{Text}
use Rattle.disk_core.proofs.Times.{only_read_on, nothing_read}
use Rattle.disk_core.specs.declared.disk.Disk.{Ghosts}
use Rattle.issuance_log.specs.Words.{LogAsksTiles, LogStays, log_disk, log_tiles_disk}
use Rattle.issuance_log.specs.declared.log.Log.{Log}
use Rattle.tree_core.specs.declared.hashing.TreeHash.{Ghosts as Hashes}

module _ {H D T : Type 0} {hashes : Hashes H} {g : Ghosts D} {k : Ghosts T} where
  -- without a call
  pub asks_alone : (log : Log H D T hashes g k)
      → ((c : Text) → k.left_since (log_tiles_disk log) (k.clock_at (log_tiles_disk log)) c
      → k.may_leave (log_tiles_disk log) c) → LogAsksTiles log log
  asks_alone log only_now = record {
    disk = refl;
    tiles = nothing_read k (log_tiles_disk log) only_now;
    view = refl;
    end = refl;
    broken = refl;
  }

  -- in two calls
  pub asks_both : (old mid new : Log H D T hashes g k) → LogAsksTiles old mid
      → LogAsksTiles mid new → LogAsksTiles old new
  asks_both old mid new first second = record {
    disk = second.disk ∙ first.disk;
    tiles =
        only_read_on k (log_tiles_disk old) (log_tiles_disk mid) (log_tiles_disk new) first.tiles
        second.tiles;
    view = second.view ∙ first.view;
    end = second.end ∙ first.end;
    broken = second.broken ∙ first.broken;
  }

  pub stays_alone : (log : Log H D T hashes g k)
      → ((c : Text) → g.left_since (log_disk log) (g.clock_at (log_disk log)) c
      → g.may_leave (log_disk log) c)
      → ((c : Text) → k.left_since (log_tiles_disk log) (k.clock_at (log_tiles_disk log)) c
      → k.may_leave (log_tiles_disk log) c) → LogStays log log
  stays_alone log only_now tiles_now = record {
    only_reads = nothing_read g (log_disk log) only_now;
    tiles = nothing_read k (log_tiles_disk log) tiles_now;
    view = refl;
    end = refl;
    broken = refl;
  }

  pub stays_both : (old mid new : Log H D T hashes g k) → LogStays old mid → LogStays mid new
      → LogStays old new
  stays_both old mid new first second = record {
    only_reads = only_read_on g (log_disk old) (log_disk mid) (log_disk new) first.only_reads
        second.only_reads;
    tiles =
        only_read_on k (log_tiles_disk old) (log_tiles_disk mid) (log_tiles_disk new) first.tiles
        second.tiles;
    view = second.view ∙ first.view;
    end = second.end ∙ first.end;
    broken = second.broken ∙ first.broken;
  }
