use Rattle.std.proofs.Common.{◌≡◌, ◌∙◌, ◌+◌, ◌++◌, ◌≤◌, ℕ, List, [], arith, ap, sym, subst}
use Rattle.tree_core.specs.declared.spans.Span.{Span}
use Rattle.landmarks.specs.Landmarks.{active_of}
use Rattle.issuance_log.specs.Staying.{stays_alone, stays_both}
use Rattle.issuance_log.specs.Words.{log_disk, log_tiles_disk}
use Rattle.drill_core.specs.Parties.{log_seen}
use Rattle.policy_core.specs.declared.lists.Trusted.{Trusted}
use Rattle.drill_core.specs.LightStores.{AreOfLandmarks, cover_with}
use Rattle.drill_core.proofs.OwnSubtrees.{next_landmark, none_of_landmarks}
use Rattle.drill_core.proofs.OnlyRead.{mem_now, seen_stays}
use Rattle.drill_core.proofs.light.active_subtrees.Goals as goal

pub loop-number-init : goal.loop-number-init
loop-number-init g c =
    let h = g.H.TreeHash.hash in
    let entries = (log_seen c.args.log.now).entries in
    let l = c.args.landmarks.now in
    let from : ℕ = (active_of l).start in
    record {
      stays = stays_alone c.args.log.now (mem_now (log_disk c.args.log.now))
          (mem_now (log_tiles_disk c.args.log.now));
      active = subst (λ (x : List Trusted). AreOfLandmarks h entries l from
          c.active-numbers.result.start x) (sym c.new-trust.ensures.items)
          (subst (λ (n : ℕ). AreOfLandmarks h entries l from n [])
          (ap (λ (s : Span). s.start) (sym c.active-numbers.ensures))
          (none_of_landmarks h entries l from));
    }

pub loop-number-preserved : goal.loop-number-preserved
loop-number-preserved g c =
    let h = g.H.TreeHash.hash in
    let entries = (log_seen c.args.log.now).entries in
    let l = c.args.landmarks.now in
    let from : ℕ = (active_of l).start in
    let loop = c.loop-number in
    let put : c.put_cover.new.trust.items ≡ loop.trust.items
    ++ cover_with h entries c.subtrees.result =
    c.in_ok-put_cover.ensures.put
    ∙ ap (λ s. loop.trust.items ++ cover_with h s.entries c.subtrees.result)
    (seen_stays _ _ loop.invariant.stays) in
    record {
      stays = stays_both _ _ _ loop.invariant.stays c.put_cover.ensures.stays;
      active = subst (λ (x : List Trusted). AreOfLandmarks h entries l from (loop.number + 1) x)
          (sym put) (next_landmark h entries l from loop.number loop.trust.items c.subtrees.result
          loop.invariant.active c.subtrees.ensures.exact c.subtrees.ensures.covers);
    }

pub returns-clause-active : goal.returns-clause-active
returns-clause-active g c =
    let h = g.H.TreeHash.hash in
    let entries = (log_seen c.args.log.now).entries in
    let l = c.args.landmarks.now in
    let from : ℕ = (active_of l).start in
    let loop = c.loop-number in
    let ends : c.active-numbers.result.end ≡ (active_of l).end =
    ap (λ (s : Span). s.end) c.active-numbers.ensures in
    let starts : c.active-numbers.result.start ≡ (active_of l).start =
    ap (λ (s : Span). s.start) c.active-numbers.ensures in
    let rising : c.active-numbers.result.start ≤ c.active-numbers.result.end =
    omega (arith, starts, ends) in
    let within = c.loop-number.auto.number-end rising in
    let all : loop.number ≡ (active_of l).end =
    omega (arith, ends, c.loop-number-test.false, within) in
    subst (λ (x : List Trusted). AreOfLandmarks h entries l from (active_of l).end x)
    (sym c.from_vec.ensures)
    (subst (λ (n : ℕ). AreOfLandmarks h entries l from n loop.trust.items) all
    loop.invariant.active)

pub returns-in_err-put_cover-clause-stays : goal.returns-in_err-put_cover-clause-stays
returns-in_err-put_cover-clause-stays g c =
    stays_both _ _ _ c.loop-number.invariant.stays c.put_cover.ensures.stays
