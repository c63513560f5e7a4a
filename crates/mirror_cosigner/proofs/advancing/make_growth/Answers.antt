use Rattle.std.proofs.Common.{◌≡◌, ◌∙◌, arith, subst, sym, Result}
use Rattle.byte_formats.proofs.Values.{err_is}
use Rattle.mirror_core.specs.Folds.{MirrorState}
use Rattle.mirror_core.specs.Staying.{mirror_asks_both}
use Rattle.mirror_core.specs.Words.{mirror_by_both, mirror_view}
use Rattle.mirror_cosigner.specs.Requests.{advance_by_mirror}
use Rattle.mirror_cosigner.specs.Works.{MakesAdvance}
use Rattle.mirror_cosigner.specs.declared.advancing.Growth.{Growth}
use Rattle.mirror_cosigner.specs.declared.error.MirrorStepError.{MirrorStepError}
use Rattle.mirror_cosigner.proofs.Hashed.{both_before, both_so}
use Rattle.mirror_cosigner.proofs.Tested.{growth_within, some_own}
use Rattle.mirror_cosigner.proofs.Made.{growth_compared, growth_not_beyond, growth_refused}
use Rattle.mirror_cosigner.proofs.advancing.make_growth.Goals as goal

pub returns-in_err-root-clause-asks : goal.returns-in_err-root-clause-asks
returns-in_err-root-clause-asks g c =
    mirror_asks_both _ _ _ c.compare_held.ensures.asks c.root_of.ensures.asks

pub returns-in_err-proof-clause-asks : goal.returns-in_err-proof-clause-asks
returns-in_err-proof-clause-asks g c =
    mirror_asks_both _ _ _ (mirror_asks_both _ _ _ c.compare_held.ensures.asks
    c.root_of.ensures.asks) c.growth_of.ensures.asks

pub returns-clause-asks : goal.returns-clause-asks
returns-clause-asks g c =
    mirror_asks_both _ _ _ (mirror_asks_both _ _ _ c.compare_held.ensures.asks
    c.root_of.ensures.asks) c.growth_of.ensures.asks

pub returns-then-size-own_size-clause-made : goal.returns-then-size-own_size-clause-made
returns-then-size-own_size-clause-made g c =
    let h = g.H.TreeHash.hash in
    let known = mirror_by_both c.args.mirror.now in
    let v = mirror_view c.args.mirror.now in
    let held = c.args.held.now in
    let some = some_own h known held in
    let same = c.size-own_size.ensures.value in
    let more = c.if-size-own_size.true in
    growth_refused h known v held c.args.size c.size-own_size.result same
    (omega (arith, same, more)) some.0 some.1

pub returns-in_err-compare_held-clause-made : goal.returns-in_err-compare_held-clause-made
returns-in_err-compare_held-clause-made g c =
    let h = g.H.TreeHash.hash in
    let known = mirror_by_both c.args.mirror.now in
    let v = mirror_view c.args.mirror.now in
    let held = c.args.held.now in
    let same = c.size-own_size.ensures.value in
    let few = c.if-size-own_size.false in
    subst (λ (r : Result Growth MirrorStepError). MakesAdvance h known v held c.args.size r)
    (err_is c.from_residual.result c.in_err-compare_held.field-0.0 c.from_residual.ensures.1)
    (growth_compared h known v held c.args.size c.in_err-compare_held.field-0.0
    (omega (arith, same, few)) c.in_err-compare_held.ensures.compares)

pub returns-clause-made : goal.returns-clause-made
returns-clause-made g c =
    let h = g.H.TreeHash.hash in
    let mirror = c.args.mirror.now in
    let v = mirror_view mirror in
    let held = c.args.held.now in
    let size = c.args.size in
    let compared = c.in_ok-compare_held.ensures.compares in
    let first = c.compare_held.ensures.asks in
    let second = mirror_asks_both _ _ _ first c.root_of.ensures.asks in
    let same = c.size-own_size.ensures.value in
    let few = c.if-size-own_size.false in
    record {
      own = compared.own;
      own_is = compared.own_is;
      answer = sym (growth_within v.size compared.own held size (omega (arith, same, few)))
          ∙ compared.answer;
      beyond = growth_not_beyond v.size size (omega (arith, same, few)) _;
      made = both_so
          (λ (s : MirrorState). c.in_ok-root.root ≡ (advance_by_mirror h s held size).root)
          (λ (s : MirrorState). c.in_ok-proof.proof ≡ (advance_by_mirror h s held size).proof)
          (mirror_by_both mirror)
          (both_before _ mirror c.compare_held.new.mirror first c.in_ok-root.ensures.hash)
          (both_before _ mirror c.root_of.new.mirror second c.in_ok-proof.ensures.proof);
    }
