use Rattle.std.proofs.Common.{[], inl, inr, refl, sym, ◌∙◌}
use Rattle.std.proofs.lemmas.Result.{err_from_is_err_and}
use Rattle.byte_formats.specs.Types.{HashFunction, Text}
use Rattle.mtc_command.specs.Steps.{Outcome}
use Rattle.mtc_monitor.specs.MonitorOutcome.{kept_says}
use Rattle.mtc_monitor.proofs.FourFiles.{after_second, after_third, at_fourth, following_first}
use Rattle.mtc_monitor.proofs.FourFiles.{from_fourth, from_second, from_third, names, replies_so}
use Rattle.mtc_monitor.proofs.FourFiles.{says_so}
use Rattle.mtc_monitor.proofs.monitor.monitor.Goals as goal

-- what is answered to the bytes of the four files
abbrev says : HashFunction → Text → Text → Text → Text → Text → Text → Text → Text → Outcome
says h state watch request entries s w r e = kept_says h state s watch w request r entries e

pub returns-in_err-kept : goal.returns-in_err-kept
returns-in_err-kept g c =
    let p = err_from_is_err_and c.from_residual.result c.from_residual.ensures.1 in
    let a = c.args in
    let f = says g.H.TreeHash.hash a.state.now a.watch.now a.request.now a.entries.now in
    let file = g.R.Room.file a.room.now in
    rw (p.1, p.2) (c.in_err-kept.ensures.stops
    (names f a.state.now a.watch.now a.request.now a.entries.now) []
    (from_second f a.state.now a.watch.now a.request.now a.entries.now
    (file a.watch.now) (file a.request.now) (file a.entries.now)) (inl refl))

pub returns-in_err-domains : goal.returns-in_err-domains
returns-in_err-domains g c =
    let p = err_from_is_err_and c.from_residual-in_err-domains.result
    c.from_residual-in_err-domains.ensures.1 in
    let a = c.args in
    let f = says g.H.TreeHash.hash a.state.now a.watch.now a.request.now a.entries.now in
    let file = g.R.Room.file c.read_input.new.room in
    rw (p.1, p.2) (following_first f a.state.now a.watch.now a.request.now a.entries.now
    g.R.Room g.R.Dsk.Disk _ _ _ _ c.in_ok-kept.ensures.all_closed c.in_ok-kept.kept
    c.in_ok-kept.ensures.bytes
    (c.in_err-domains.ensures.stops
    (names f a.state.now a.watch.now a.request.now a.entries.now) []
    (from_third f a.state.now a.watch.now a.request.now a.entries.now
    (file a.request.now) (file a.entries.now) c.in_ok-kept.kept) (inr (inl refl))))

pub returns-in_err-form : goal.returns-in_err-form
returns-in_err-form g c =
    let p = err_from_is_err_and c.from_residual-in_err-form.result
    c.from_residual-in_err-form.ensures.1 in
    let a = c.args in
    let f = says g.H.TreeHash.hash a.state.now a.watch.now a.request.now a.entries.now in
    rw (p.1, p.2) (following_first f a.state.now a.watch.now a.request.now a.entries.now
    g.R.Room g.R.Dsk.Disk _ _ _ _ c.in_ok-kept.ensures.all_closed c.in_ok-kept.kept
    c.in_ok-kept.ensures.bytes
    (after_second f a.state.now a.watch.now a.request.now a.entries.now
    g.R.Room g.R.Dsk.Disk _ _ _ _ c.in_ok-domains.ensures.all_closed c.in_ok-kept.kept
    c.in_ok-domains.domains c.in_ok-domains.ensures.bytes
    (c.in_err-form.ensures.stops
    (names f a.state.now a.watch.now a.request.now a.entries.now) []
    (from_fourth f a.state.now a.watch.now a.request.now a.entries.now
    (g.R.Room.file c.read_input-2.new.room a.entries.now) c.in_ok-kept.kept
    c.in_ok-domains.domains) (inr (inr (inl refl))))))

-- the other files are read, and then the entries by what they ask
pub returns-in-Ok : goal.returns-in-Ok
returns-in-Ok g c =
    let a = c.args in
    let f = says g.H.TreeHash.hash a.state.now a.watch.now a.request.now a.entries.now in
    let s = c.in_ok-kept.kept in
    let w = c.in_ok-domains.domains in
    let r = c.in_ok-form.form in
    following_first f a.state.now a.watch.now a.request.now a.entries.now
    g.R.Room g.R.Dsk.Disk _ _ _ _ c.in_ok-kept.ensures.all_closed s c.in_ok-kept.ensures.bytes
    (after_second f a.state.now a.watch.now a.request.now a.entries.now
    g.R.Room g.R.Dsk.Disk _ _ _ _ c.in_ok-domains.ensures.all_closed s w
    c.in_ok-domains.ensures.bytes
    (after_third f a.state.now a.watch.now a.request.now a.entries.now
    g.R.Room g.R.Dsk.Disk _ _ _ _ c.in_ok-form.ensures.all_closed s w r c.in_ok-form.ensures.bytes
    (at_fourth f a.state.now a.watch.now a.request.now a.entries.now
    g.R.Room g.R.Dsk.Disk _ _ _ s w r _
    (λ d. sym (c.in-Ok.ensures g.H.TreeHash.hash a.entries.now d)
    ∙ says_so f a.state.now a.watch.now a.request.now a.entries.now _ _ _ s w r c.as_slice.ensures
    c.as_slice-2.ensures c.as_slice-3.ensures d)
    c.watched.ensures)))

pub returns : goal.returns
returns g c =
    let a = c.args in
    let f = says g.H.TreeHash.hash a.state.now a.watch.now a.request.now a.entries.now in
    let s = c.in_ok-kept.kept in
    let w = c.in_ok-domains.domains in
    let r = c.in_ok-form.form in
    following_first f a.state.now a.watch.now a.request.now a.entries.now
    g.R.Room g.R.Dsk.Disk _ _ _ _ c.in_ok-kept.ensures.all_closed s c.in_ok-kept.ensures.bytes
    (after_second f a.state.now a.watch.now a.request.now a.entries.now
    g.R.Room g.R.Dsk.Disk _ _ _ _ c.in_ok-domains.ensures.all_closed s w
    c.in_ok-domains.ensures.bytes
    (after_third f a.state.now a.watch.now a.request.now a.entries.now
    g.R.Room g.R.Dsk.Disk _ _ _ _ c.in_ok-form.ensures.all_closed s w r c.in_ok-form.ensures.bytes
    (at_fourth f a.state.now a.watch.now a.request.now a.entries.now
    g.R.Room g.R.Dsk.Disk _ _ _ s w r _ (λ d. refl)
    (c.unwatched.ensures (λ d. f s w r d)
    (λ d. replies_so f a.state.now a.watch.now a.request.now a.entries.now _ _ _ s w r
    c.as_slice.ensures c.as_slice-2.ensures c.as_slice-3.ensures _ d
    (c.in-Err.ensures g.H.TreeHash.hash a.entries.now d))))))
