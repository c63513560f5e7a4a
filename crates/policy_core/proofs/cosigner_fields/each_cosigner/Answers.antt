use Rattle.std.proofs.Common.{◌≡◌, [], ◌∷◌, ap, length, arith}
use Rattle.std.proofs.lemmas.List.{length-append}
use Rattle.std.proofs.lemmas.Result.{err_from_is_err_and}
use Rattle.policy_core.proofs.Items.{known_more, known_fault}
use Rattle.policy_core.proofs.cosigner_fields.each_cosigner.Goals as goal

pub loop-value-preserved : goal.loop-value-preserved
loop-value-preserved c =
    let place : c.len.result ≡ length c.loop-value.cosigners.items =
    omega (arith, c.len.ensures, c.loop-value.cosigners.ok) in
    record {
      whole = known_more _ c.args.values.now c.loop-value.value-index c.value-item.result
          c.in_ok-cosigner.cosigner c.loop-value.cosigners.items c.push.new.self.items
          (omega (arith, c.loop-value-test.true)) c.value-item.is
          (rw place at c.in_ok-cosigner.ensures.exact) c.in_ok-push.ensures.items
          c.loop-value.invariant.whole;
      few = omega (
        arith,
        place,
        c.in_ok-cosigner.ensures.within,
        ap length c.in_ok-push.ensures.items,
        length-append c.loop-value.cosigners.items (c.in_ok-cosigner.cosigner ∷ []),
      );
    }

pub returns-in_err-cosigner-clause-err : goal.returns-in_err-cosigner-clause-err
returns-in_err-cosigner-clause-err c =
    let place : c.len.result ≡ length c.loop-value.cosigners.items =
    omega (arith, c.len.ensures, c.loop-value.cosigners.ok) in
    let p = err_from_is_err_and c.from_residual.result c.from_residual.ensures.1 in
    rw (p.1, p.2) (λ other.
    known_fault _ c.args.values.now c.loop-value.value-index c.value-item.result
    c.loop-value.cosigners.items _ (omega (arith, c.loop-value-test.true)) c.value-item.is
    (rw place at (c.in_err-cosigner.ensures.exact other)) c.loop-value.invariant.whole)
