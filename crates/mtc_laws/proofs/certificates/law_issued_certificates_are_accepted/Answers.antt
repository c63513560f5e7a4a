use Rattle.mtc_laws.proofs.Acceptances.{issued_certificates_accepted}
use Rattle.mtc_laws.proofs.certificates.law_issued_certificates_are_accepted.Goals as goal

pub returns : goal.returns
returns g c = issued_certificates_accepted g.H.TreeHash.hash g.R.Room g.R.Dsk.Disk g.O.Sink g.E.Sink
    g.met.R.Dsk.Disk.reads_crash_state g.met.R.Dsk.Disk.only_now
    (g.met.R.Room.modelled_file, g.met.R.Room.one_device)
    g.met.R.Dsk.Disk.contents_bytes g.met.H.TreeHash.sized
    c.law_records_keep_to_the_rules.ensures.only_first
    (c.law_records_determine_the_items.ensures.sound g.H.TreeHash.hash)
