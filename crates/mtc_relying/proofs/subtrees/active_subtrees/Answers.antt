use Rattle.std.proofs.Common.{◌≡◌, ap, arith}
use Rattle.landmarks.specs.Landmarks.{active_of}
use Rattle.tree_core.specs.declared.spans.Span.{Span}
use Rattle.mtc_relying.proofs.Trusted.{so_far-all, so_far-more, so_far-none}
use Rattle.mtc_relying.proofs.subtrees.active_subtrees.Goals as goal

pub loop-number-init : goal.loop-number-init
loop-number-init c =
    so_far-none c.args.landmarks.now c.active-numbers.result.start _
    (ap (λ (s : Span). s.start) c.active-numbers.ensures) c.new-spans.ensures.items

pub loop-number-preserved : goal.loop-number-preserved
loop-number-preserved c =
    let l = c.args.landmarks.now in
    let start : c.active-numbers.result.start ≡ (active_of l).start =
    ap (λ (s : Span). s.start) c.active-numbers.ensures in
    let end : c.active-numbers.result.end ≡ (active_of l).end =
    ap (λ (s : Span). s.end) c.active-numbers.ensures in
    so_far-more l c.loop-number.number c.loop-number.spans.items c.push_cover.new.spans.items
    c.subtrees.result c.loop-number.invariant (omega (arith, start))
    (omega (arith, end, c.loop-number-test.true)) c.subtrees.ensures.exact
    c.subtrees.ensures.covers c.in_ok-push_cover.ensures

pub returns : goal.returns
returns c =
    let l = c.args.landmarks.now in
    let end : c.active-numbers.result.end ≡ (active_of l).end =
    ap (λ (s : Span). s.end) c.active-numbers.ensures in
    so_far-all l c.loop-number.number c.loop-number.spans.items c.loop-number.invariant
    (omega (arith, end, c.loop-number-test.false)) c.requires.numbered
