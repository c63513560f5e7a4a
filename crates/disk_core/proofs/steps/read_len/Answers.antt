use Rattle.std.proofs.Common.{◌≡◌, ℕ, ◌≤◌, max, Result, Ok, Err, MatchResult, arith}
use Rattle.disk_core.proofs.Times.{one_read}
use Rattle.disk_core.proofs.steps.read_len.Goals as goal

-- the known length never falls
no_shorter : {E : Type 0} (result : Result ℕ E) (old new : ℕ)
    → MatchResult result (λ n. new ≡ max n old) (λ _. new ≡ old) → old ≤ new
no_shorter (Ok n) old new is = omega arith
no_shorter (Err e) old new is = omega arith

pub returns-clause-only_reads : goal.returns-clause-only_reads
returns-clause-only_reads g c =
    one_read g.D.Disk _ _ c.len.ensures.contents c.len.ensures.crash c.len.ensures.time
    (no_shorter _ _ _ c.len.ensures.known) c.len.ensures.cause.later
    (g.met.D.Disk.only_now _)
