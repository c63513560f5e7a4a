use Rattle.std.proofs.Common.{List, [], ◌∷◌, inl, refl, ap, subst, ◌∙◌}
use Rattle.std.proofs.lemmas.Result.{err_from_is_err_and}
use Rattle.byte_formats.specs.Types.{Text}
use Rattle.cosigner_core.specs.Views.{advance_parts}
use Rattle.mtc_command.specs.Answers.{ending_of}
use Rattle.mtc_command.specs.Endings.{Replies}
use Rattle.monitor_core.specs.States.{MonitorState}
use Rattle.mtc_streams.proofs.Answered.{streamed}
use Rattle.mtc_monitor.specs.MonitorOutcome.{new_items_say}
use Rattle.mtc_monitor.proofs.monitor.watched.Goals as goal

pub returns-in_err-counted : goal.returns-in_err-counted
returns-in_err-counted g c =
    let p = err_from_is_err_and c.from_residual.result c.from_residual.ensures.1 in
    let x = c.args.asked in
    rw (p.1, p.2) (c.in_err-counted.ensures.stops (c.args.entries.now ∷ []) []
    (new_items_say g.H.TreeHash.hash x.state x.watch (advance_parts x.request) c.args.entries.now)
    (inl refl))

pub returns : goal.returns
returns g c =
    let x = c.args.asked in
    let e = c.args.entries.now in
    let says = λ (p : MonitorState × List Text).
    new_items_say g.H.TreeHash.hash p.0 p.1 (advance_parts x.request) e in
    let kept = c.in_ok-counted.ensures.kept
    ∙ ap (λ (s : MonitorState). (s, c.new-run.result.watch)) c.new-run.ensures.state
    ∙ ap (λ (w : List Text). (x.state, w)) c.new-run.ensures.watch in
    streamed g.R.Room g.R.Dsk.Disk g.met.R.Dsk.Disk.only_now (e ∷ []) _ e
    (says (x.state, x.watch)) _ _ _ c.in_ok-counted.ensures.all_closed _
    c.in_ok-counted.ensures.items (λ bytes holds.
    subst (λ (p : MonitorState × List Text). Replies (says p bytes).answer
    (ending_of c.new_items_answer.result)) kept (c.new_items_answer.ensures bytes holds))
