use Rattle.std.proofs.Common.{◌≡◌, ◌-◌}
use Rattle.monitor_core.specs.Reading.{domain_lines, watch_in}
use Rattle.monitor_core.proofs.Domains.{with_others}
use Rattle.monitor_core.proofs.watching.read_domains.Given as goal

-- The domains so far and those of the lines that are left make the whole.
abbrev pub invariant-loop-n : goal.invariant-loop-n
invariant-loop-n l =
    with_others l.domains.items (domain_lines (1000 - l.n) l.n l.rest) ≡ watch_in l.fn.text
