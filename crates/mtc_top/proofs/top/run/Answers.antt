use Rattle.std.proofs.Common.{inl}
use Rattle.mtc_top.proofs.Runs.{planned_run, streamed_run}
use Rattle.mtc_top.proofs.top.run.Goals as goal

pub returns-in-Kept : goal.returns-in-Kept
returns-in-Kept g c =
    let did = c.answer.ensures in
    let done = c.in-Kept.ensures.done in
    planned_run g.H.TreeHash.hash g.R.Room g.R.Dsk.Disk g.O.Sink g.E.Sink _ _ _ _ _ _ _ _ _
    done.0 did.valid did.only_read did.spares did.second did.stores (inl (rw (
      ← c.command_word.ensures,
      ← c.cause.ensures,
      ← done.1,
    ) c.conclude.ensures))

pub returns-in-Written : goal.returns-in-Written
returns-in-Written g c =
    let did = c.answer.ensures in
    let done = c.in-Written.ensures.done in
    let so = streamed_run g.H.TreeHash.hash g.R.Room g.R.Dsk.Disk g.O.Sink g.E.Sink _ _ _ _ _ _ _ _
    c.in-Written.ended done.0 done.1 (rw (
      ← c.command_word-in-Written.ensures,
      ← c.cause-in-Written.ensures,
    ) c.conclude_written.ensures) in
    planned_run g.H.TreeHash.hash g.R.Room g.R.Dsk.Disk g.O.Sink g.E.Sink _ _ _ _ _ _ _ _ _
    so.1.0 did.valid did.only_read did.spares did.second did.stores so.1.1
