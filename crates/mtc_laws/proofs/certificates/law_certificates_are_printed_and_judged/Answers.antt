use Rattle.mtc_laws.proofs.Certified.{certificates_printed, light_certificates_printed}
use Rattle.mtc_laws.proofs.Verified.{accepted_printed}
use Rattle.mtc_laws.proofs.certificates.law_certificates_are_printed_and_judged.Goals as goal

pub returns-clause-certificates : goal.returns-clause-certificates
returns-clause-certificates g c = certificates_printed g.H.TreeHash.hash g.R.Room g.R.Dsk.Disk
    g.O.Sink g.E.Sink
    (g.met.R.Room.modelled_file, g.met.R.Room.one_device) g.met.R.Dsk.Disk.contents_bytes

pub returns-clause-light : goal.returns-clause-light
returns-clause-light g c = light_certificates_printed g.H.TreeHash.hash g.R.Room g.R.Dsk.Disk
    g.O.Sink g.E.Sink
    (g.met.R.Room.modelled_file, g.met.R.Room.one_device) g.met.R.Dsk.Disk.contents_bytes

pub returns-clause-accepted : goal.returns-clause-accepted
returns-clause-accepted g c =
    accepted_printed g.H.TreeHash.hash g.R.Room g.R.Dsk.Disk g.O.Sink g.E.Sink
