use Rattle.std.proofs.Common.{[], ◌∷◌, inl, refl}
use Rattle.std.proofs.lemmas.Result.{err_from_is_err_and}
use Rattle.mtc_streams.proofs.Answered.{streamed}
use Rattle.mtc_monitor.specs.RootOutcome.{root_says}
use Rattle.mtc_monitor.proofs.root.root.Goals as goal

pub returns-in_err-read : goal.returns-in_err-read
returns-in_err-read g c =
    let p = err_from_is_err_and c.from_residual.result c.from_residual.ensures.1 in
    rw (p.1, p.2) (c.in_err-read.ensures.stops (c.args.entries.now ∷ []) []
    (root_says g.H.TreeHash.hash c.args.entries.now) (inl refl))

pub returns : goal.returns
returns g c =
    streamed g.R.Room g.R.Dsk.Disk g.met.R.Dsk.Disk.only_now (c.args.entries.now ∷ []) _ _
    (root_says g.H.TreeHash.hash c.args.entries.now) _ _ _ c.in_ok-read.ensures.all_closed _
    c.in_ok-read.ensures.items c.root_answer.ensures
