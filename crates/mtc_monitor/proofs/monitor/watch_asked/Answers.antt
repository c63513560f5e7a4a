use Rattle.std.proofs.Common.{subst, sym}
use Rattle.monitor_core.specs.Reasons.{text_fault_text}
use Rattle.mtc_command.specs.Steps.{with_form}
use Rattle.mtc_monitor.specs.Asked.{AsksFor}
use Rattle.mtc_monitor.specs.MonitorOutcome.{new_size_says}
use Rattle.mtc_monitor.proofs.monitor.watch_asked.Goals as goal

pub returns-in-Ok : goal.returns-in-Ok
returns-in-Ok c = λ h entries bytes.
    let a = c.args in
    subst (λ read. AsksFor h entries bytes (with_form text_fault_text a.watch.now read
    (λ domains. new_size_says h a.state domains a.request.now a.form.now entries bytes))
    c.request_asked.result) (sym c.in-Ok.ensures) (c.request_asked.ensures.asked h entries bytes)
