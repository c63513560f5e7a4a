use Rattle.mtc_laws.proofs.Taken.{sizes_printed, taken_stand}
use Rattle.mtc_laws.proofs.mirrors.law_taken_items_stand.Goals as goal

pub returns-clause-printed : goal.returns-clause-printed
returns-clause-printed g c = sizes_printed g.H.TreeHash.hash g.R.Room g.R.Dsk.Disk g.O.Sink
    g.E.Sink
    (g.met.R.Room.modelled_file, g.met.R.Room.one_device)
    g.met.R.Dsk.Disk.contents_bytes (record {
      same = c.law_the_first_difference_is_first.ensures.none;
      few = c.law_batches_are_the_longest.ensures.few;
      small = c.law_batches_are_the_longest.ensures.small;
      some = c.law_batches_are_the_longest.ensures.some;
    })

pub returns-clause-stand : goal.returns-clause-stand
returns-clause-stand g c = taken_stand g.H.TreeHash.hash g.R.Room g.R.Dsk.Disk g.O.Sink g.E.Sink
    (g.met.R.Room.modelled_file, g.met.R.Room.one_device)
    g.met.R.Dsk.Disk.contents_bytes (record {
      same = c.law_the_first_difference_is_first.ensures.none;
      few = c.law_batches_are_the_longest.ensures.few;
      small = c.law_batches_are_the_longest.ensures.small;
      some = c.law_batches_are_the_longest.ensures.some;
    }) g.met.R.Dsk.Disk.reads_crash_state g.met.R.Dsk.Disk.only_now
