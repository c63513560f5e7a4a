use Rattle.std.proofs.Common.{[], ◌∷◌, inl, refl}
use Rattle.std.proofs.lemmas.Result.{err_from_is_err_and}
use Rattle.mtc_streams.proofs.Answered.{streamed}
use Rattle.mtc_monitor.proofs.monitor.unwatched.Goals as goal

pub returns-in_err-_read : goal.returns-in_err-_read
returns-in_err-_read g c =
    let p = err_from_is_err_and c.from_residual.result c.from_residual.ensures.1 in
    rw (p.1, p.2) (λ wanted stops. c.in_err-_read.ensures.stops (c.args.entries.now ∷ []) [] wanted
    (inl refl))

pub returns : goal.returns
returns g c = λ wanted stops.
    streamed g.R.Room g.R.Dsk.Disk g.met.R.Dsk.Disk.only_now (c.args.entries.now ∷ []) _ _ wanted
    _ _ _ c.in_ok-_read.ensures.all_closed _ c.in_ok-_read.ensures.items
    (λ bytes holds. stops bytes)
