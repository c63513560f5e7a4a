use Rattle.std.proofs.Common.{subst, sym}
use Rattle.monitor_core.specs.Reasons.{text_fault_text}
use Rattle.mtc_command.specs.Steps.{with_form}
use Rattle.mtc_monitor.specs.Asked.{AsksFor}
use Rattle.mtc_monitor.specs.MonitorOutcome.{watch_says}
use Rattle.mtc_monitor.proofs.monitor.read_forms.Goals as goal

pub returns-in-Ok : goal.returns-in-Ok
returns-in-Ok c = λ h entries bytes.
    let a = c.args in
    subst (λ read. AsksFor h entries bytes (with_form text_fault_text a.state.now read
    (λ kept. watch_says h kept a.watch.now a.text.now a.request.now a.form.now entries bytes))
    c.watch_asked.result) (sym c.in-Ok.ensures) (c.watch_asked.ensures h entries bytes)
