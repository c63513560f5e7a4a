use Rattle.std.proofs.Common.{◌≡◌, ◌+◌, ◌-◌, true, false, suc, length, sym, ◌∙◌, arith}
use Rattle.std.specs.Prelude.{◌==◌}
use Rattle.std.proofs.lemmas.Bool.Decides.{nat_tests}
use Rattle.std.proofs.lemmas.Result.{err_from_is_err_and}
use Rattle.monitor_core.proofs.Domains.{domains_end, domains_fail, domains_from, domains_more}
use Rattle.monitor_core.proofs.Domains.{domains_over}
use Rattle.monitor_core.specs.Reading.{watch_in}
use Rattle.monitor_core.proofs.watching.read_domains.Goals as goal

pub loop-n-init : goal.loop-n-init
unfolding watch_in
loop-n-init c = domains_from _ _ c.requires

pub returns-then-is_empty-clause-ok : goal.returns-then-is_empty-clause-ok
returns-then-is_empty-clause-ok c =
    let none : (length c.loop-n.rest.now == 0) ≡ true =
    grind (arith, nat_tests, c.if-is_empty.ensures) in
    sym c.loop-n.invariant
    ∙ domains_end (1000 - c.loop-n.n) c.loop-n.n c.loop-n.rest.now c.loop-n.domains.items none

pub returns-in_err-domain-clause-err : goal.returns-in_err-domain-clause-err
returns-in_err-domain-clause-err c =
    let n = c.loop-n.n in
    let p = err_from_is_err_and c.from_residual.result c.from_residual.ensures.1 in
    let more : 1000 - n ≡ suc (1000 - (n + 1)) = omega arith in
    let some : (length c.loop-n.rest.now == 0) ≡ false =
    grind (arith, nat_tests, c.if-is_empty.ensures) in
    rw (p.1, p.2) (λ other. sym c.loop-n.invariant ∙ domains_fail (1000 - (n + 1)) (1000 - n) n
    c.loop-n.rest.now c.loop-n.domains.items _ more some c.in_err-domain.ensures)

pub loop-n-preserved : goal.loop-n-preserved
loop-n-preserved c =
    let n = c.loop-n.n in
    let more : 1000 - n ≡ suc (1000 - (n + 1)) = omega arith in
    let some : (length c.loop-n.rest.now == 0) ≡ false =
    grind (arith, nat_tests, c.if-is_empty.ensures) in
    sym (domains_more (1000 - (n + 1)) (1000 - n) n c.loop-n.rest.now c.in_ok-domain.domain.now
    c.in_ok-domain.following.now c.loop-n.domains.items _ more some c.in_ok-domain.ensures
    c.in_ok-push_copy.ensures)
    ∙ c.loop-n.invariant

pub returns-then-is_empty-2-clause-ok : goal.returns-then-is_empty-2-clause-ok
returns-then-is_empty-2-clause-ok c =
    let none : (length c.loop-n.rest.now == 0) ≡ true =
    grind (arith, nat_tests, c.if-is_empty-2.ensures) in
    sym c.loop-n.invariant
    ∙ domains_end (1000 - c.loop-n.n) c.loop-n.n c.loop-n.rest.now c.loop-n.domains.items none

pub returns-else-is_empty-2-clause-err : goal.returns-else-is_empty-2-clause-err
returns-else-is_empty-2-clause-err c = λ other.
    let some : (length c.loop-n.rest.now == 0) ≡ false =
    grind (arith, nat_tests, c.if-is_empty-2.ensures) in
    sym c.loop-n.invariant
    ∙ domains_over (1000 - c.loop-n.n) c.loop-n.n 1000 c.loop-n.rest.now c.loop-n.domains.items
    (omega arith) (omega arith) some
