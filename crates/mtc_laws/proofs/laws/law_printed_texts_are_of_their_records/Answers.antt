use Rattle.mtc_laws.proofs.Printed.{indices_printed, signatures_printed, switches_printed}
use Rattle.mtc_laws.proofs.Secrets.{only_cosign}
use Rattle.mtc_laws.proofs.laws.law_printed_texts_are_of_their_records.Goals as goal

pub returns-clause-indices : goal.returns-clause-indices
returns-clause-indices g c = indices_printed g.H.TreeHash.hash g.R.Room g.R.Dsk.Disk g.O.Sink
    g.E.Sink
    (g.met.R.Room.modelled_file, g.met.R.Room.one_device) g.met.R.Dsk.Disk.contents_bytes

pub returns-clause-switches : goal.returns-clause-switches
returns-clause-switches g c = switches_printed g.H.TreeHash.hash g.R.Room g.R.Dsk.Disk g.O.Sink
    g.E.Sink
    (g.met.R.Room.modelled_file, g.met.R.Room.one_device) g.met.R.Dsk.Disk.contents_bytes

pub returns-clause-signatures : goal.returns-clause-signatures
returns-clause-signatures g c = signatures_printed g.H.TreeHash.hash g.R.Room g.R.Dsk.Disk
    g.O.Sink g.E.Sink
    (g.met.R.Room.modelled_file, g.met.R.Room.one_device) g.met.R.Dsk.Disk.contents_bytes
    g.met.H.TreeHash.sized
    (c.law_records_determine_the_items.ensures.sound g.H.TreeHash.hash)

pub returns-clause-secrets : goal.returns-clause-secrets
returns-clause-secrets g c = only_cosign g.H.TreeHash.hash g.R.Room g.R.Dsk.Disk g.O.Sink g.E.Sink
    g.met.R.Dsk.Disk.reads_crash_state g.met.R.Dsk.Disk.only_now
    (g.met.R.Room.modelled_file, g.met.R.Room.one_device)
    g.met.R.Dsk.Disk.contents_bytes g.met.H.TreeHash.sized
    (c.law_records_determine_the_items.ensures.sound g.H.TreeHash.hash)
