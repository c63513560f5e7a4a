use Rattle.mtc_laws.proofs.MirrorsAgree.{mirror_runs_may_break, mirrors_agree}
use Rattle.mtc_laws.proofs.MirrorsAgree.{mirrors_never_foreign}
use Rattle.mtc_laws.proofs.mirrors.law_cosigners_agree_with_mirrors.Goals as goal

pub returns-clause-agree : goal.returns-clause-agree
returns-clause-agree g c = mirrors_agree g.H.TreeHash.hash g.R.Room g.R.Dsk.Disk
    g.O.Sink g.E.Sink g.met.R.Dsk.Disk.reads_crash_state g.met.R.Dsk.Disk.only_now
    (g.met.R.Room.modelled_file, g.met.R.Room.one_device)
    g.met.R.Dsk.Disk.contents_bytes g.met.H.TreeHash.sized
    (c.law_records_determine_the_items.ensures.sound g.H.TreeHash.hash)

pub returns-clause-never_foreign : goal.returns-clause-never_foreign
returns-clause-never_foreign g c = mirrors_never_foreign g.H.TreeHash.hash g.R.Room g.R.Dsk.Disk
    g.O.Sink g.E.Sink g.met.R.Dsk.Disk.reads_crash_state g.met.R.Dsk.Disk.only_now
    (g.met.R.Room.modelled_file, g.met.R.Room.one_device)
    g.met.R.Dsk.Disk.contents_bytes g.met.H.TreeHash.sized
    (c.law_records_determine_the_items.ensures.sound g.H.TreeHash.hash)

pub returns-clause-killed : goal.returns-clause-killed
returns-clause-killed g c = mirror_runs_may_break g.H.TreeHash.hash g.R.Room g.R.Dsk.Disk
    g.O.Sink g.E.Sink g.met.R.Dsk.Disk.reads_crash_state g.met.R.Dsk.Disk.only_now
    (g.met.R.Room.modelled_file, g.met.R.Room.one_device)
    g.met.R.Dsk.Disk.contents_bytes g.met.H.TreeHash.sized
    (c.law_records_determine_the_items.ensures.sound g.H.TreeHash.hash)
