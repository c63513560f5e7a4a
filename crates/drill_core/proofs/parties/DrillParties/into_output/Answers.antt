use Rattle.std.proofs.Common.{refl}
use Rattle.drill_core.proofs.parties.DrillParties.into_output.Goals as goal

pub returns : goal.returns
returns g c = record {
  log = c.in_ok-log.ensures.disk;
  fails_none = c.in_ok-log.ensures.fails_none;
  cosigners = c.in_ok-out.ensures.disks;
  certs = c.from_vec.ensures;
  counts = record {
    entries = c.in_ok-log.ensures.entries;
    landmarks = c.in_ok-log.ensures.landmarks;
    signatures = c.in_ok-out.ensures.signatures;
    stops = c.stops-stops.ensures;
    verified = refl;
    stands = refl;
    light = refl;
  };
}
