use Rattle.std.proofs.Common.{ap, refl, ◌∙◌}
use Rattle.monitor_core.proofs.Watched.{watched-none}
use Rattle.monitor_core.proofs.growth.Growth.new.Goals as goal

pub returns : goal.returns
returns g c = λ watch.
    watched-none g.H.TreeHash.hash _ refl c.new.ensures.items (c.of.ensures
    ∙ ap (λ n. record { size = n; peaks = c.peaks.result.now }) c.size.ensures
    ∙ ap (λ ps. record { size = c.args.state.now.size; peaks = ps }) c.peaks.ensures.value)
