use Rattle.mtc_headline.proofs.Given.{exports_given, printed_written}
use Rattle.mtc_top.specs.Executions.{program}
use Rattle.mtc_headline.proofs.witnesses.witness_exports_are_given.Goals as goal

pub returns-clause-written : goal.returns-clause-written
returns-clause-written g c = printed_written g.H.TreeHash.hash
    (program g.H.TreeHash.hash g.R.Room g.R.Dsk.Disk g.O.Sink g.E.Sink)

pub returns-clause-exported : goal.returns-clause-exported
returns-clause-exported g c = exports_given g.H.TreeHash.hash g.R.Room g.R.Dsk.Disk g.O.Sink
    g.E.Sink g.met.R.Dsk.Disk.reads_crash_state g.met.R.Dsk.Disk.only_now
    (g.met.R.Room.modelled_file, g.met.R.Room.one_device)
    g.met.R.Dsk.Disk.contents_bytes
