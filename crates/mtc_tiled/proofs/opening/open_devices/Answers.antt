use Rattle.std.proofs.Common.{inl, inr}
use Rattle.std.proofs.lemmas.Result.{err_from_is_err_and}
use Rattle.mtc_tiled.proofs.OnlyRead.{is_journal}
use Rattle.mtc_tiled.proofs.Results.{err_so, ok_so}
use Rattle.mtc_tiled.proofs.opening.open_devices.Goals as goal

pub returns-in_err-disk-clause-stops : goal.returns-in_err-disk-clause-stops
returns-in_err-disk-clause-stops g c =
    let refused = err_from_is_err_and c.from_residual.result c.from_residual.ensures.1 in
    rw (refused.1, refused.2) (inl (record {
      serves = c.in_err-disk.ensures.stops;
      closes = c.in_err-disk.ensures.refused;
    }))

pub returns-in-Ok-clause-opened : goal.returns-in-Ok-clause-opened
returns-in-Ok-clause-opened g c = ok_so c.open_beside.result
    c.open_beside.ensures.opened (λ both is. is c.args.room.now
    (record {
      opened_disk = c.in_ok-disk.disk;
      opened = c.in_ok-disk.ensures.opened;
      only_reads = c.read_header.ensures.only_reads;
      fine = c.in-Ok.ensures.fine;
    })
    (λ t not. is_journal (g.R.Room.file c.args.room.now c.args.journal.now)
    (g.R.Dsk.Disk.contents c.in_ok-disk.disk) (c.in_ok-disk.ensures.opened.bytes t)
    c.in-Ok.ensures.ok not))

pub returns-in-Ok-clause-stops : goal.returns-in-Ok-clause-stops
returns-in-Ok-clause-stops g c = err_so c.open_beside.result
    c.open_beside.ensures.stops (λ stop is. inr (inr (is c.args.room.now
    (record {
      opened_disk = c.in_ok-disk.disk;
      opened = c.in_ok-disk.ensures.opened;
      only_reads = c.read_header.ensures.only_reads;
      fine = c.in-Ok.ensures.fine;
    })
    (λ t not. is_journal (g.R.Room.file c.args.room.now c.args.journal.now)
    (g.R.Dsk.Disk.contents c.in_ok-disk.disk) (c.in_ok-disk.ensures.opened.bytes t)
    c.in-Ok.ensures.ok not))))

pub returns-in-Err-clause-stops : goal.returns-in-Err-clause-stops
returns-in-Err-clause-stops g c = inr (inl (record {
  mid = c.open_file.new.room;
  opened_disk = c.in_ok-disk.disk;
  disk = c.read_header.new.disk;
  why = c.in-Err.why;
  opened = c.in_ok-disk.ensures.opened;
  only_reads = c.read_header.ensures.only_reads;
  reason = c.in-Err.ensures.reason;
  kind = c.in-Err.ensures.kind;
  closed = c.close.ensures;
  ends = c.refuse_open.ensures;
}))
