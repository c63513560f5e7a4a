use Rattle.std.proofs.Common.{◌∙◌, ◌&&◌, ap}
use Rattle.std.specs.Prelude.{◌==◌, not}
use Rattle.std.specs.List.{list_any}
use Rattle.monitor_core.proofs.watching.is_domain.Goals as goal

pub returns-then-is_host : goal.returns-then-is_host
returns-then-is_host c =
    ap not c.has_star.ensures
    ∙ ap (λ b. b && not (list_any (λ byte. byte == 0x2A) c.args.text.now)) c.if-is_host.ensures
