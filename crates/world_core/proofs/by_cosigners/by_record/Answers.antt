use Rattle.std.proofs.Common.{Some}
use Rattle.cert_fields.specs.Views.{parts}
use Rattle.mtc_proof.specs.Views.{proof_parts}
use Rattle.world_core.proofs.Decided.{recorded_decides, sign_at}
use Rattle.world_core.proofs.Walks.{ok_still}
use Rattle.world_core.proofs.by_cosigners.by_record.Goals as goal

pub by_sign-requires-clause-sign : goal.by_sign-requires-clause-sign
by_sign-requires-clause-sign g c =
    sign_at c.args.accepted.now c.args.kept.now.steps c.in-Some.place c.in-Some.ensures.there

pub returns-in-Some : goal.returns-in-Some
returns-in-Some g c =
    ok_still _ _ c.by_sign.result (λ answer decides. recorded_decides g.H.TreeHash.hash c.args.set
    c.args.kept.now (record {
      accepted = c.args.accepted.now;
      cert = parts c.args.cert.now;
      proof = proof_parts c.args.proof.now;
      store = c.args.store.now;
      items = c.args.items.now;
      kept = Some c.args.kept.now;
    }) answer c.in-Some.ensures.none decides) c.by_sign.ensures
