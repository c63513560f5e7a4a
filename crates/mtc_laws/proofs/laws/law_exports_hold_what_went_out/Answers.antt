use Rattle.mtc_laws.proofs.Exports.{exports_hold}
use Rattle.mtc_laws.proofs.laws.law_exports_hold_what_went_out.Goals as goal

pub returns : goal.returns
returns g c = exports_hold g.H.TreeHash.hash g.R.Room g.R.Dsk.Disk g.O.Sink g.E.Sink
    g.met.R.Dsk.Disk.reads_crash_state g.met.R.Dsk.Disk.only_now
    (g.met.R.Room.modelled_file, g.met.R.Room.one_device)
    g.met.R.Dsk.Disk.contents_bytes
