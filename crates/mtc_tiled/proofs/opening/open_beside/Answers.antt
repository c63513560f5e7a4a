use Rattle.std.proofs.Common.{subst}
use Rattle.byte_formats.specs.Types.{Text}
use Rattle.mtc_command.specs.Works.{HasFailedBeside, HasOpenedBeside}
use Rattle.mtc_tiled.proofs.opening.open_beside.Goals as goal

pub returns-in-Ok-clause-opened : goal.returns-in-Ok-clause-opened
returns-in-Ok-clause-opened g c = λ old header is_journal. record {
  mid = c.args.room.now;
  header = header;
  is_journal = is_journal;
  beside = subst (λ (t : Text). HasOpenedBeside g.R.Room g.R.Dsk.Disk t c.args.room.now
      c.open_tiles.new.room c.in-Ok.tiles) c.requires.named c.in-Ok.ensures.opened;
}

pub returns-in-Err-clause-stops : goal.returns-in-Err-clause-stops
returns-in-Err-clause-stops g c = λ old header is_journal. record {
  mid = c.args.room.now;
  both = c.open_tiles.new.room;
  disk = c.args.disk;
  header = header;
  is_journal = is_journal;
  failed = subst (λ (t : Text). HasFailedBeside g.R.Room t c.args.room.now c.open_tiles.new.room)
      c.requires.named c.in-Err.ensures.refused;
  closed = c.close.ensures;
  ends = c.in-Err.ensures.contents;
}
