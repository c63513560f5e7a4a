use Rattle.std.proofs.Common.{◌≡◌, ◌∙◌, arith, sym}
use Rattle.mirror_core.specs.Folds.{MirrorState}
use Rattle.mirror_core.specs.Staying.{mirror_asks_both}
use Rattle.mirror_core.specs.Words.{mirror_by_both, mirror_view}
use Rattle.mirror_cosigner.specs.Requests.{subtree_by_mirror}
use Rattle.mirror_cosigner.proofs.Hashed.{both_before, both_so}
use Rattle.mirror_cosigner.proofs.Tested.{signing_passes}
use Rattle.mirror_cosigner.proofs.cosigning.make_signing.Goals as goal

pub returns-in_err-hash-clause-asks : goal.returns-in_err-hash-clause-asks
returns-in_err-hash-clause-asks g c =
    mirror_asks_both _ _ _ c.compare_held.ensures.asks c.hash_of.ensures.asks

pub returns-in_err-proof-clause-asks : goal.returns-in_err-proof-clause-asks
returns-in_err-proof-clause-asks g c =
    mirror_asks_both _ _ _ (mirror_asks_both _ _ _ c.compare_held.ensures.asks
    c.hash_of.ensures.asks) c.proof_of.ensures.asks

pub returns-clause-asks : goal.returns-clause-asks
returns-clause-asks g c =
    mirror_asks_both _ _ _ (mirror_asks_both _ _ _ c.compare_held.ensures.asks
    c.hash_of.ensures.asks) c.proof_of.ensures.asks

pub returns-clause-made : goal.returns-clause-made
returns-clause-made g c =
    let h = g.H.TreeHash.hash in
    let mirror = c.args.mirror.now in
    let held = c.args.held.now in
    let start = c.args.start in
    let end = c.args.end in
    let compared = c.in_ok-compare_held.ensures.compares in
    let first = c.compare_held.ensures.asks in
    let second = mirror_asks_both _ _ _ first c.hash_of.ensures.asks in
    record {
      own = compared.own;
      own_is = compared.own_is;
      answer = signing_passes (mirror_view mirror).size compared.own held start end compared.answer
          (sym c.subtree_ok.ensures ∙ c.if-not-subtree_ok.false)
          (omega (arith, c.if-end-held.false));
      made = both_so
          (λ (s : MirrorState). c.in_ok-hash.hash ≡ (subtree_by_mirror h s held start end).hash)
          (λ (s : MirrorState). c.in_ok-proof.proof ≡ (subtree_by_mirror h s held start end).proof)
          (mirror_by_both mirror)
          (both_before _ mirror c.compare_held.new.mirror first c.in_ok-hash.ensures.hash)
          (both_before _ mirror c.hash_of.new.mirror second c.in_ok-proof.ensures.proof);
    }
