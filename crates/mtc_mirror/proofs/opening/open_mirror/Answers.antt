use Rattle.std.proofs.Common.{arith, inl, inr}
use Rattle.std.proofs.lemmas.Result.{err_from_is_err_and}
use Rattle.mtc_mirror.proofs.opening.open_mirror.Goals as goal

pub close_devices-requires : goal.close_devices-requires
close_devices-requires g c =
    let is = c.in_ok-disk.ensures.opened in
    record {
      both = omega (arith, is.header.opened.opened, is.beside.opened);
      named = c.requires.named;
    }

pub returns-in-Ok-clause-opened : goal.returns-in-Ok-clause-opened
returns-in-Ok-clause-opened g c = record {
  disk = _;
  tiles = _;
  devices = c.in_ok-disk.ensures.opened;
  is = c.in-Ok.ensures.opened;
}

pub returns-in_err-disk-clause-stops : goal.returns-in_err-disk-clause-stops
returns-in_err-disk-clause-stops g c =
    let refused = err_from_is_err_and c.from_residual.result c.from_residual.ensures.1 in
    rw (refused.1, refused.2) (inl c.in_err-disk.ensures.stops)

pub returns-in-Err-clause-stops : goal.returns-in-Err-clause-stops
returns-in-Err-clause-stops g c = inr (record {
  both = c.open_devices.new.room;
  disk = c.in_ok-disk.disk;
  tiles = c.in_ok-disk.tiles;
  disk' = c.in-Err.field-0.disk;
  tiles' = c.in-Err.field-0.tiles;
  why = c.in-Err.field-0.why;
  opened = c.in_ok-disk.ensures.opened;
  is = c.in-Err.ensures.refused;
  closed = c.close_devices.ensures;
  ends = c.refuse_mirror.ensures;
})
