use Rattle.std.proofs.Common.{ap, ◌∙◌}
use Rattle.std.proofs.lemmas.Result.{err_from_is_err_and}
use Rattle.monitor_core.proofs.Watched.{found-refused, found-so}
use Rattle.monitor_core.specs.States.{MonitorState}
use Rattle.monitor_core.specs.Watched.{GrowthParts, run_with}
use Rattle.monitor_core.proofs.growth.Growth.found.Goals as goal

pub returns-in_err-leads_on : goal.returns-in_err-leads_on
returns-in_err-leads_on g c =
    let p = err_from_is_err_and c.from_residual.result c.from_residual.ensures.1 in
    let a = c.args in
    rw (p.1, p.2) (λ watch entries are other.
    found-refused g.H.TreeHash.hash (run_with a.state.now watch a.self) a.log.now a.size a.root.now
    a.proof.now entries are c.leads_on.ensures.fits c.ranges.size.fits watch _
    c.in_err-leads_on.ensures.refused)

pub returns : goal.returns
returns g c = λ watch entries are.
    let a = c.args in
    let s = c.self.inside in
    found-so g.H.TreeHash.hash (run_with a.state.now watch a.self) a.log.now a.size a.root.now
    a.proof.now entries are c.leads_on.ensures.fits c.ranges.size.fits
    c.in_ok-leads_on.ensures.passed c.in_ok-leads_on.ensures.count _
    (c.of.ensures
    ∙ ap (λ (state : MonitorState). record { lines = s.lines.items; state = state })
    (c.in_ok-state.ensures
    ∙ ap (λ n. record { log = a.state.now.log; size = n; peaks = c.as_slice.result.now })
    c.size.ensures
    ∙ ap (λ ps. record { log = a.state.now.log; size = s.peaks.size; peaks = ps })
    c.as_slice.ensures.value)
    ∙ ap (λ (p : GrowthParts). record {
      lines = p.lines;
      state = record { log = a.state.now.log; size = p.peaks.size; peaks = p.peaks.peaks };
    }) c.self.view_is)
